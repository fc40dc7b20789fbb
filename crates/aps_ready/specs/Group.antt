use Rattle.std.specs.Prelude.{ℕ}

-- the groups of ready threads: partition p's in group p, and its critical ones in group p + 32
abbrev pub group_count : ℕ
group_count = 64
