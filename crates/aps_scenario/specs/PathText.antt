use Rattle.std.specs.Prelude.{◌≡◌, ℕ, ◌≤◌, List, ◌++◌, length, take, replicate}

-- the most bytes of a path
abbrev pub longest_path : ℕ
longest_path = 64

-- the bytes and then zeros, 64 in all
abbrev pub path_padded : List ℕ → List ℕ
path_padded text = take longest_path (text ++ replicate longest_path 0)

-- how a path lies in its 64 bytes
pub record FitsPath (bytes : List ℕ) (len : ℕ) : Type 0 where
  pub short : length (take len bytes) ≤ longest_path
  pub count : length (take len bytes) ≡ len
  pub zeros : path_padded (take len bytes) ≡ bytes
