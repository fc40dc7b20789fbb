-- The commands that clap is given.
use Rattle.std.specs.Prelude.{List, Some, true, fold}
use Rattle.clap.specs.Words.{App, Rule, Text, new_app, new_rule, with_rule}
use Rattle.clap.specs.declared.builder.ArgAction.TheVariants.{Set}

-- an option with one plain value
abbrev pub option_rule : Text → Rule
option_rule name = record (new_rule name) { long = Some name; action = Some Set }

-- a command without options, and without help
abbrev pub plain_app : Text → App
plain_app name =
    let named = new_app name in record named { top = record named.top { disable_help_flag = true } }

-- a command with options of these names
abbrev pub app_with : Text → List Text → App
app_with name names = fold (λ app option. with_rule app (option_rule option)) (plain_app name) names
