use Rattle.std.proofs.Common.{◌≡◌, ℕ, ◌*◌, ◌/◌, ◌<◌, ◌≤◌, List, [], ◌∷◌, ◌++◌, length, map, decimal, refl, sym, ap, ◌∙◌, append_assoc, append-nil, arith}
use lib.Chars.{codes}
use Rattle.std.specs.List.{flat_map, range_with_len, join_with_byte}
use Rattle.std.proofs.lemmas.List.Folds.{flat_map-map}
use Rattle.aps_model.specs.History.{History}
use Rattle.aps_model.specs.Journal.{line_of}
use Rattle.aps_model.specs.Limits.{most_partitions}
use Rattle.aps_model.specs.Loaded.{finished_ticks}
use Rattle.aps_model.specs.Report.{end_line, window_line, windows_text}
use Rattle.aps_report.specs.Windows.{cell_of, cell_words, used_in_window, window_with, AreUsed}
use Rattle.aps_report.proofs.Ranges.{flat_map_range, map_range}

-- words with a space between each two: the first, and each other after a space
joined : (c : ℕ) (word : List ℕ) (words : List (List ℕ)) → join_with_byte c (word ∷ words) ≡ word ++ flat_map (λ w. c ∷ w) words
joined c word [] = sym (append-nil word)
joined c word (next ∷ words) = rw (joined c next words) refl

-- a window's line, in pieces
line-is : (cells : List ℕ) (rows window k : ℕ)
    → window_with cells rows window k ≡ codes "window " ++ ((decimal (k * window) ++ flat_map (cell_words cells k) (range_with_len 0 rows)) ++ codes "\n")
line-is cells rows window k =
    let words : List (List ℕ) = map (λ p. decimal (cell_of cells k p)) (range_with_len 0 rows) in
    let first : List ℕ = decimal (k * window) in
    ap (λ t. codes "window " ++ (t ++ codes "\n"))
    (joined 32 first words ∙ ap (λ t. first ++ t) (flat_map-map (λ w. 32 ∷ w) (λ p. decimal (cell_of cells k p)) (range_with_len 0 rows)))

regroup : (a b c d e : List ℕ) → ((a ++ (b ++ c)) ++ d) ++ e ≡ a ++ (b ++ ((c ++ d) ++ e))
regroup a b c d e = simp append_assoc

-- the same, written piece after piece
pub window-by : (cells : List ℕ) (rows window k first : ℕ) (start t1 t2 t3 : List ℕ) → first ≡ k * window
    → t1 ≡ start ++ (codes "window " ++ decimal first)
    → t2 ≡ t1 ++ flat_map (cell_words cells k) (range_with_len 0 rows)
    → t3 ≡ t2 ++ codes "\n"
    → t3 ≡ start ++ window_with cells rows window k
window-by cells rows window k first start t1 t2 t3 is e1 e2 e3 =
    let columns : List ℕ = flat_map (cell_words cells k) (range_with_len 0 rows) in
    e3 ∙ ap (λ t. t ++ codes "\n") e2 ∙ ap (λ t. (t ++ columns) ++ codes "\n") (e1 ∙ ap (λ n. start ++ (codes "window " ++ decimal n)) is)
    ∙ regroup start (codes "window ") (decimal (k * window)) columns (codes "\n")
    ∙ ap (λ t. start ++ t) (sym (line-is cells rows window k))

-- the lines from the cells are those of the windows
lines_same : (h : History) (windows : ℕ) (cells : List ℕ) → AreUsed h.shape h.entries windows cells → length h.rows ≤ most_partitions → (k : ℕ) → k < windows
    → window_with cells (length h.rows) h.shape.window k ≡ window_line h (k * h.shape.window)
lines_same h windows cells are few k known =
    let columns = map_range (λ p. decimal (cell_of cells k p)) (λ p. decimal (used_in_window h.shape h.entries k p)) (length h.rows)
    (λ p here. ap decimal (are.each k p known (omega arith))) in
    ap (λ words. line_of (codes "window" ∷ decimal (k * h.shape.window) ∷ words)) columns

pub windows-by : (h : History) (windows : ℕ) (cells t1 t2 t3 : List ℕ) → length h.rows ≤ most_partitions
    → windows ≡ finished_ticks h.shape h.entries / h.shape.window
    → AreUsed h.shape h.entries windows cells
    → t1 ≡ codes "aps windows 1\n"
    → t2 ≡ t1 ++ end_line h.end
    → t3 ≡ t2 ++ flat_map (window_with cells (length h.rows) h.shape.window) (range_with_len 0 windows)
    → t3 ≡ windows_text h
windows-by h windows cells t1 t2 t3 few is are e1 e2 e3 =
    let lines = flat_map_range (window_with cells (length h.rows) h.shape.window) (λ k. window_line h (k * h.shape.window)) windows (lines_same h windows cells are few) in
    e3 ∙ ap (λ t. t ++ flat_map (window_with cells (length h.rows) h.shape.window) (range_with_len 0 windows)) (e2 ∙ ap (λ t. t ++ end_line h.end) e1)
    ∙ ap (λ t. codes "aps windows 1\n" ++ end_line h.end ++ t)
    (lines ∙ ap (λ n. flat_map (λ k. window_line h (k * h.shape.window)) (range_with_len 0 n)) is)
