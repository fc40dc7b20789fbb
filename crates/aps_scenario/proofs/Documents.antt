-- Bytes that are a document, and bytes that are none.
use Rattle.std.proofs.Common.{◌≡◌, ℕ, Bool, true, false, List, Some, None, Result, Err, inl, inr}
use Rattle.std.proofs.lemmas.Bool.{cases_Bool}
use Rattle.std.proofs.lemmas.Str.{IsUtf8-from_is_utf8, is_utf8-from_IsUtf8}
use Rattle.std.specs.Prelude.{IsTrue, ◌↔◌}
use Rattle.std.specs.Str.{IsUtf8, is_utf8}
use Rattle.toml.specs.Data.{Members}
use Rattle.toml.specs.Parse.{parse_document}
use Rattle.aps_scenario.specs.declared.kind.Kind.TheVariants.{NotToml}
use Rattle.aps_scenario.specs.Path.{whole_text}
use Rattle.aps_scenario.specs.declared.refusal.Finding.{Finding}
use Rattle.aps_scenario.specs.Document.{document_reads, or_told}

pub reads-document : {A : Type 0} (reader : Members → Result A Finding) (bytes : List ℕ) (t : Members) → IsUtf8 bytes → parse_document bytes ≡ Some t
    → document_reads reader bytes ≡ or_told (reader t)
reads-document reader bytes t utf8 parsed = rw (is_utf8-from_IsUtf8 bytes utf8, parsed)

pub reads-no_document : {A : Type 0} (reader : Members → Result A Finding) (bytes : List ℕ) → (IsUtf8 bytes → parse_document bytes ≡ None)
    → document_reads reader bytes ≡ Err (record { kind = NotToml; path = whole_text })
reads-no_document reader bytes none =
    elim (cases_Bool (is_utf8 bytes)) [
      | inl utf8 ↦ rw (utf8, none (IsUtf8-from_is_utf8 bytes utf8))
      | inr other ↦ rw other
    ]

pub not_so : (b : Bool) (P : Type 0) → IsTrue b ↔ P → b ≡ false → P → ⊥
not_so b P same other p = let is_so : b ≡ true = same.1 p in cc
