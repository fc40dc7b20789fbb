-- Paths, as they lie in their 64 bytes.
use Rattle.std.proofs.Common.{arith, ◌≡◌, ℕ, suc, ◌-◌, ◌+◌, ◌/◌, ◌%◌, ◌≤◌, ◌<◌, ◌++◌, List, [], ◌∷◌, slice_set, take, drop, replicate, length, slice_index_or, sym, ◌∙◌, ap, append_assoc}
use Rattle.std.proofs.lemmas.List.{take-append-drop, length-take-le, take-replicate, take_more, take_more_set, drop-set-lt, drop-replicate, drop-drop, length-append}
use Rattle.std.proofs.Math.Seq.{take-append-add, drop-append_seam, set-append_seam}
use Rattle.std.proofs.lemmas.Fmt.{length-decimal-le, decimal_step, decimal_digit}
use Rattle.std.specs.Fmt.{decimal}
use Rattle.aps_scenario.specs.PathText.{path_padded, FitsPath, longest_path}
use Rattle.aps_scenario.specs.Path.{longest_key}

-- a text of at most 64 bytes, padded
padded_short : (text : List ℕ) → length text ≤ longest_path → path_padded text ≡ text ++ replicate (longest_path - length text) 0
padded_short text few =
    let split : longest_path ≡ length text + (longest_path - length text) = omega arith in
    let cut : take longest_path (text ++ replicate longest_path 0) ≡ take (length text + (longest_path - length text)) (text ++ replicate longest_path 0) =
    ap (λ n. take n (text ++ replicate longest_path 0)) split in
    let zeros : take (longest_path - length text) (replicate longest_path 0) ≡ replicate (longest_path - length text) 0 =
    take-replicate (longest_path - length text) longest_path 0 (omega arith) in
    cut ∙ take-append-add text (replicate longest_path 0) (longest_path - length text) ∙ ap (λ zs. text ++ zs) zeros

-- behind a path its bytes are zeros
rest_zeros : (bytes : List ℕ) (len : ℕ) → FitsPath bytes len → drop len bytes ≡ replicate (longest_path - len) 0
rest_zeros bytes len fits =
    let text : List ℕ = take len bytes in
    let laid : text ++ replicate (longest_path - length text) 0 ≡ bytes = sym (padded_short text fits.short) ∙ fits.zeros in
    let cut : drop len bytes ≡ drop (length text) (text ++ replicate (longest_path - length text) 0) =
    ap (λ bs. drop len bs) (sym laid) ∙ ap (λ n. drop n (text ++ replicate (longest_path - length text) 0)) (sym fits.count) in
    cut ∙ drop-append_seam text (replicate (longest_path - length text) 0) ∙ ap (λ n. replicate (longest_path - n) 0) fits.count

-- one byte more
pub pushed : (bytes : List ℕ) (len b : ℕ) → length bytes ≡ longest_path → len < longest_path → FitsPath bytes len → FitsPath (slice_set bytes len b) (len + 1)
pushed bytes len b whole more fits =
    let after : List ℕ = slice_set bytes len b in
    let front : take (len + 1) after ≡ take len bytes ++ b ∷ [] = take_more_set bytes len b (omega arith) in
    let count : length (take (len + 1) after) ≡ len + 1 = ap length front ∙ length-append (take len bytes) (b ∷ []) ∙ ap (λ n. n + 1) fits.count in
    let rest : drop (len + 1) after ≡ replicate (longest_path - (len + 1)) 0 =
    drop-set-lt (len + 1) bytes len b (omega arith) ∙ sym (drop-drop 1 len bytes) ∙ ap (λ zs. drop 1 zs) (rest_zeros bytes len fits)
    ∙ drop-replicate 1 (longest_path - len) 0 ∙ ap (λ n. replicate n 0) (omega arith) in
    let short : length (take (len + 1) after) ≤ longest_path = omega arith in
    record {
      short = short;
      count = count;
      zeros = padded_short (take (len + 1) after) short ∙ ap (λ n. take (len + 1) after ++ replicate (longest_path - n) 0) count
          ∙ ap (λ zs. take (len + 1) after ++ zs) (sym rest) ∙ take-append-drop (len + 1) after;
    }

-- ---- numbers of elements

pub five_digits : (n : ℕ) → n < 65536 → length (decimal n) ≤ 5
five_digits n small = length-decimal-le 5 n (omega arith) (omega arith) (omega arith)

pub one_digit : (n : ℕ) → n < 10 → decimal n ≡ (48 + n) ∷ []
one_digit n small = decimal_digit n small

pub last_digit : (n : ℕ) → 10 ≤ n → n < 65536 → decimal n ≡ decimal (n / 10) ++ (48 + n % 10) ∷ []
last_digit n more small = decimal_step n more (omega arith)

pub digits_less : (n : ℕ) → 10 ≤ n → n < 65536 → length (decimal n) ≡ length (decimal (n / 10)) + 1
digits_less n more small = ap length (last_digit n more small) ∙ length-append (decimal (n / 10)) ((48 + n % 10) ∷ [])

-- ---- keys

-- one byte more of a key is copied over the zeros
pub copied : (key bytes : List ℕ) (i : ℕ) → bytes ≡ take i key ++ replicate (longest_key - i) 0 → i < length key → length key ≤ longest_key
    → slice_set bytes i (slice_index_or key i 0) ≡ take (i + 1) key ++ replicate (longest_key - (i + 1)) 0
copied key bytes i before more few =
    let b : ℕ = slice_index_or key i 0 in
    let more_zeros : longest_key - i ≡ suc (longest_key - (i + 1)) = omega arith in
    let zeros : replicate (longest_key - i) 0 ≡ 0 ∷ replicate (longest_key - (i + 1)) 0 = ap (λ n. replicate n 0) more_zeros in
    let long : length (take i key) ≡ i = length-take-le i key (omega arith) in
    let laid : bytes ≡ take i key ++ 0 ∷ replicate (longest_key - (i + 1)) 0 = before ∙ ap (λ zs. take i key ++ zs) zeros in
    let placed : slice_set bytes i b ≡ take i key ++ b ∷ replicate (longest_key - (i + 1)) 0 =
    ap (λ bs. slice_set bs i b) laid ∙ ap (λ n. slice_set (take i key ++ 0 ∷ replicate (longest_key - (i + 1)) 0) n b) (sym long)
    ∙ set-append_seam (take i key) 0 (replicate (longest_key - (i + 1)) 0) b in
    placed ∙ sym (append_assoc (take i key) (b ∷ []) (replicate (longest_key - (i + 1)) 0)) ∙ ap (λ front. front ++ replicate (longest_key - (i + 1)) 0) (sym (take_more key i 0 more))
