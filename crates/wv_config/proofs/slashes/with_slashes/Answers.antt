use Rattle.std.proofs.Common.{sym, subst}
use Rattle.std.specs.Str.{IsUtf8}
use Rattle.wv_config.proofs.Slashing.{stays_utf8}
use Rattle.wv_config.proofs.slashes.with_slashes.Goals as goal

pub unwrap-requires : goal.unwrap-requires
unwrap-requires c = c.from_utf8.ensures.succeeds (subst IsUtf8 (sym c.in_ok-bytes.ensures) (stays_utf8 _ (subst IsUtf8 (sym c.as_bytes.ensures.value) c.as_str-text.utf8)))
