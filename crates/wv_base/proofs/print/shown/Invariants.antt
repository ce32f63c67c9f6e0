use Rattle.std.proofs.Common.{◌≡◌, ◌++◌, length, encode_utf8_all}
use Rattle.std.specs.String.{string_bytes}
use Rattle.wv_base.specs.Shown.{shown_characters}
use Rattle.wv_base.proofs.print.shown.Given as goal

abbrev pub invariant-loop-rest : goal.invariant-loop-rest
invariant-loop-rest l =
    string_bytes l.text ++ encode_utf8_all (shown_characters l.rest) ≡ encode_utf8_all (shown_characters l.name)

abbrev pub decreases-loop-rest : goal.decreases-loop-rest
decreases-loop-rest l = length l.rest
