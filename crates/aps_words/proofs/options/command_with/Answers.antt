use Rattle.std.proofs.Common.{◌≡◌, ◌+◌, ◌<◌, ℕ, List, [], ◌∷◌, Bor, map, take, get_or, length, ap, ◌∙◌}
use Rattle.std.proofs.lemmas.List.{take_more, map-append}
use Rattle.std.proofs.lemmas.List.Sums.{fold-append}
use Rattle.clap.specs.Words.{App, Text, with_rule, app_of}
use Rattle.aps_words.specs.Clap.{app_with, option_rule}
use Rattle.aps_words.proofs.options.command_with.Goals as goal

-- with one more option than the first i
one_more : (name : Text) (options : List (Bor Text)) (i : ℕ) (d : Bor Text) (before after : App) → i < length options
    → before ≡ app_with name (map (λ option. option.now) (take i options)) → after ≡ with_rule before (option_rule (get_or options i d).now)
    → after ≡ app_with name (map (λ option. option.now) (take (i + 1) options))
one_more name options i d before after within so_far more =
    rw (
      take_more options i d within,
      map-append (λ (option : Bor Text). option.now) (take i options) (get_or options i d ∷ []),
      fold-append (λ (app : App) (option : Text). with_rule app (option_rule option)) _ (map (λ (option : Bor Text). option.now) (take i options)) ((get_or options i d).now ∷ []),
    )
    (more ∙ ap (λ app. with_rule app (option_rule (get_or options i d).now)) so_far)

pub loop-option-preserved : goal.loop-option-preserved
loop-option-preserved c =
    one_more c.args.name.now c.args.options.now c.loop-option.option-index _ (app_of c.loop-option.command) (app_of c.in_ok-command.command)
    c.loop-option-test.true c.loop-option.invariant c.in_ok-command.ensures
