use Rattle.std.proofs.Common.{◌≡◌, map, take}
use Rattle.clap.specs.Words.{app_of}
use Rattle.aps_words.specs.Clap.{app_with}
use Rattle.aps_words.proofs.options.command_with.Given as goal

abbrev pub invariant-loop-option : goal.invariant-loop-option
invariant-loop-option l = app_of l.command ≡ app_with l.fn.name (map (λ option. option.now) (take l.option-index l.options))
