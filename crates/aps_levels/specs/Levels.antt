use Rattle.std.specs.Prelude.{ℕ, ◌-◌, Bool, false, nat_lt, if◌then◌else◌}
use Rattle.aps_levels.specs.declared.levels.Levels.{Levels}
use Rattle.aps_levels.specs.Bits.{set_has}

-- the levels that a set can have
abbrev pub level_count : ℕ
level_count = 256

-- the set has the level; each of its four words has 64 of them
abbrev pub has_level : Levels → ℕ → Bool
has_level set k =
    if nat_lt k 64 then set_has set.first k
    else if nat_lt k 128 then set_has set.second (k - 64)
    else if nat_lt k 192 then set_has set.third (k - 128)
    else if nat_lt k level_count then set_has set.fourth (k - 192)
    else false
