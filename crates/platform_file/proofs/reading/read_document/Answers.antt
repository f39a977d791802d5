use Rattle.std.proofs.Common.{◌≡◌, ◌∙◌, ℕ, Bool, true, false, List, None, refl}
use Rattle.std.proofs.lemmas.Str.{IsUtf8-from_is_utf8, is_utf8-from_IsUtf8}
use Rattle.std.specs.Str.{is_utf8, IsUtf8}
use Rattle.toml.specs.Parse.{parse_document}
use Rattle.platform_file.specs.Documents.{document_of}
use Rattle.platform_file.proofs.reading.read_document.Goals as goal

-- the document of bytes that are UTF-8, and of ones that aren't
document_of_text : (bytes : List ℕ) → IsUtf8 bytes → document_of bytes ≡ parse_document bytes
document_of_text bytes text = rw (is_utf8-from_IsUtf8 bytes text) refl

no_document : (bytes : List ℕ) → (IsUtf8 bytes → ⊥) → document_of bytes ≡ None
no_document bytes none = of_test (is_utf8 bytes) refl
  where
    of_test : (b : Bool) → is_utf8 bytes ≡ b → document_of bytes ≡ None
    of_test true e = absurd (none (IsUtf8-from_is_utf8 bytes e))
    of_test false e = rw e refl

pub returns-in_default : goal.returns-in_default
returns-in_default c = rw (no_document c.args.bytes.now c.in_default.ensures.cases.0) refl

pub returns-in-Ok-table_from_str : goal.returns-in-Ok-table_from_str
returns-in-Ok-table_from_str c = document_of_text c.args.bytes.now c.in-Ok.ensures.cases.1 ∙ rw (← c.in-Ok.ensures.cases.0) c.in-Ok-table_from_str.ensures.ok
