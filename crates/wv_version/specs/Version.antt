-- Versions, dotted or plain, as texts spell them (our own, after Fabric Loader).
use Rattle.std.specs.Prelude.{◌≡◌, ℕ, List}
use Rattle.wv_version.specs.declared.dotted.Dotted.{Dotted}
use Rattle.wv_version.specs.declared.version.Version.{Version}
use Rattle.wv_version.specs.declared.version.Version.TheVariants as version
use Rattle.wv_version.specs.Dotted.{IsDotted, IsLower, IsSame}

-- a text of the dotted form spells a dotted version, and every other text a plain one (own)
abbrev pub IsVersion : List ℕ → Version → Type 0
IsVersion text (version.Dotted dotted) = IsDotted text dotted
IsVersion text (version.Plain plain) = (plain ≡ text) × ((dotted : Dotted) → IsDotted text dotted → ⊥)

abbrev pub IsPlain : Version → Type 0
IsPlain (version.Dotted dotted) = ⊥
IsPlain (version.Plain plain) = Unit {0}

-- both are dotted, and the first comes before the second
abbrev pub IsVersionLower : Version → Version → Type 0
IsVersionLower (version.Dotted v) (version.Dotted w) = IsLower v w
IsVersionLower (version.Dotted v) (version.Plain t) = ⊥
IsVersionLower (version.Plain s) w = ⊥

-- both are dotted, and equal in the order
abbrev pub HasSamePlace : Version → Version → Type 0
HasSamePlace (version.Dotted v) (version.Dotted w) = IsSame v w
HasSamePlace (version.Dotted v) (version.Plain t) = ⊥
HasSamePlace (version.Plain s) w = ⊥

-- both are dotted and equal in the order, or both are plain and the same text
abbrev pub IsVersionSame : Version → Version → Type 0
IsVersionSame (version.Dotted v) (version.Dotted w) = IsSame v w
IsVersionSame (version.Dotted v) (version.Plain t) = ⊥
IsVersionSame (version.Plain s) (version.Dotted w) = ⊥
IsVersionSame (version.Plain s) (version.Plain t) = s ≡ t
