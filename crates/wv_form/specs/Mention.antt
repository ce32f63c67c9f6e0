-- Names in class files, as texts, and those of them that are names of mixins (JVM Specification 4.2.1, 4.3 and 4.4; our
-- own).
use Rattle.std.specs.Prelude.{◌==◌, ◌&&◌, if◌then◌else◌, ℕ, Bool, false, not, List, Option, Some, None, bytes_eq, encode_utf8_all}
use Rattle.std.specs.Borrow.{Bor}
use Rattle.std.specs.BTreeSet.{BTreeSet}
use Rattle.std.specs.Char.Utf16.{has_unpaired_surrogate, utf16_lossy_chars}
use Rattle.wv_classes.specs.Roots.{has}

-- the text that a name spells; one in which a surrogate has no partner spells none
abbrev pub text_of_name : List ℕ → Option (List ℕ)
text_of_name units = if has_unpaired_surrogate units then None else Some (encode_utf8_all (utf16_lossy_chars units))

-- whether a text is among the names, and not one's own
abbrev pub is_other : BTreeSet (Bor (List ℕ)) → List ℕ → Option (List ℕ) → Bool
is_other names own None = false
is_other names own (Some text) = has names text && not (bytes_eq text own)

-- the same for a name as class files have it
unfoldable pub names_other : BTreeSet (Bor (List ℕ)) → List ℕ → List ℕ → Bool
names_other names own units = is_other names own (text_of_name units)
