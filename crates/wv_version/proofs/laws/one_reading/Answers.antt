use Rattle.std.proofs.Common.{◌≡◌, ℕ, List, ap, sym, ◌∙◌}
use Rattle.wv_version.specs.declared.version.Version.{Version}
use Rattle.wv_version.specs.declared.version.Version.TheVariants as version
use Rattle.wv_version.specs.Version.{IsVersion}
use Rattle.wv_version.proofs.Dotting.{dotted_same}
use Rattle.wv_version.proofs.laws.one_reading.Goals as goal

same : (text : List ℕ) (v w : Version) → IsVersion text v → IsVersion text w → v ≡ w
same text (version.Dotted d) (version.Dotted e) g h = ap version.Dotted (dotted_same text d e g h)
same text (version.Dotted d) (version.Plain t) g h = absurd (h.1 d g)
same text (version.Plain s) (version.Dotted e) g h = absurd (g.1 e h)
same text (version.Plain s) (version.Plain t) g h = ap version.Plain (g.0 ∙ sym h.0)

pub returns : goal.returns
returns c = same
