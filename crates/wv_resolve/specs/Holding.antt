-- What a table of ids holds of a list of what is present.
use Rattle.std.specs.Prelude.{ℕ, List, ◌∷◌, map, Option, MatchOption}
use Rattle.std.specs.Borrow.{Bor}
use Rattle.std.specs.BTreeMap.{get}
use Rattle.std.specs.Cmp.Lexicographic.{slice_cmp}
use Rattle.std.specs.Ordering.{nat_cmp}
use Rattle.wv_version.specs.Version.{IsVersion}
use Rattle.wv_resolve.specs.declared.source.Source.{Source}
use Rattle.wv_resolve.specs.declared.present.Present.{Present}
use Rattle.wv_resolve.specs.Presence.{Presence, IsAbsent, IsPresentAs, AreDistinct}

-- an id of a source is present with the source's version
abbrev pub source_presence : Source → List ℕ → Presence
source_presence source id = record { path = source.path.now; id = id; version = source.text.now }

-- what a source is present as: its own id, then those that it provides
abbrev pub source_presences : Source → List Presence
source_presences source = map (source_presence source) (source.id.now ∷ source.provides.now)

-- the version of the source is the one that its text spells
abbrev pub IsRead : Source → Type 0
IsRead source = IsVersion source.text.now source.version

-- the source that the table has under the id
abbrev pub source_under : Present → List ℕ → Option (Bor Source)
source_under present id = get (slice_cmp nat_cmp) present.sources id

-- the table has what is present under each id, and no id was there twice
pub record Holds (list : List Presence) (present : Present) : Type 0 where
  pub distinct : AreDistinct list
  pub under : (id : List ℕ) → MatchOption (source_under present id) (IsAbsent list id)
      (λ source. IsPresentAs list id source.now.text.now × IsRead source.now)
