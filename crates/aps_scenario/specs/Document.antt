-- What bytes are, where they are a document.
use Rattle.std.specs.Prelude.{ℕ, List, Option, Some, None, Result, Ok, Err, if◌then◌else◌}
use Rattle.std.specs.Str.{is_utf8}
use Rattle.toml.specs.Data.{Members}
use Rattle.toml.specs.Parse.{parse_document}
use Rattle.aps_scenario.specs.declared.kind.Kind.TheVariants.{NotToml}
use Rattle.aps_scenario.specs.declared.refusal.Finding.{Finding}
use Rattle.aps_scenario.specs.Path.{whole_text}
use Rattle.aps_scenario.specs.Refusal.{Refusal, refusal_of_finding}

abbrev pub or_told : {A : Type 0} → Result A Finding → Result A Refusal
or_told (Ok x) = Ok x
or_told (Err finding) = Err (refusal_of_finding finding)

abbrev pub table_reads : {A : Type 0} → (Members → Result A Finding) → Option Members → Result A Refusal
table_reads reader None = Err (record { kind = NotToml; path = whole_text })
table_reads reader (Some t) = or_told (reader t)

-- what the reader makes of the top table of these bytes, or why it makes nothing of them
abbrev pub document_reads : {A : Type 0} → (Members → Result A Finding) → List ℕ → Result A Refusal
document_reads reader bytes = table_reads reader (if is_utf8 bytes then parse_document bytes else None)
