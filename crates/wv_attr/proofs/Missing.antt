-- Bytes behind which others are missing, read as if zeros stood there.
use Rattle.std.proofs.Common.{◌≡◌, ℕ, zero, suc, ◌+◌, ◌-◌, ◌^◌, ◌<◌, ◌≤◌, List, [], ◌∷◌, length, take, drop, sym, subst, ap, ◌∙◌, ◌⊎◌, inl, inr, arith}
use Rattle.std.proofs.lemmas.List.{length-drop, take-append-le, take-take}
use Rattle.wv_room.specs.declared.elements.Elements.{Elements}
use Rattle.wv_room.specs.Counts.{ElementsFillRoom}
use Rattle.wv_attr.specs.declared.mark.Mark.{Mark}
use Rattle.wv_attr.specs.declared.group.Group.{Group}
use Rattle.wv_attr.specs.Marks.{table_bytes}
use Rattle.wv_attr.specs.Groups.{less, pending}
use Rattle.wv_attr.specs.Layout.{IsTable, Begins, IsLayoutFault}
use Rattle.wv_attr.specs.Steps.{zeros, padded, StepStop}
use Rattle.wv_attr.proofs.Filling.{follows_fill, nothing_left}
use Rattle.wv_attr.proofs.Leading.{nearer_only}
use Rattle.wv_attr.proofs.Padding.{length-padded, padded-none}
use Rattle.wv_attr.proofs.Places.{Reading, Starts, over_all, only_one, so_far, not_further}

-- ---- what begins with the bytes, begins with them and zeros

started : (gs : List Group) (bytes : List ℕ) (missing front : ℕ) → front ≤ length bytes → Begins gs bytes missing front → Starts gs (padded bytes missing) front
started gs bytes missing front le b =
    let long = length-padded bytes missing in
    record { parts = b.parts; small = subst (λ (k : ℕ). k < 2 ^ 32) (sym long) b.small; follows = b.follows; long = b.long ∙ sym long; agrees = b.agrees ∙ sym (take-append-le front bytes (zeros missing) le) }

begun : (gs : List Group) (bytes : List ℕ) (missing front k : ℕ) → k ≤ front → k ≤ length bytes → Starts gs (padded bytes missing) front → Begins gs bytes missing k
begun gs bytes missing front k near le s =
    let long = length-padded bytes missing in
    record {
      parts = s.parts;
      small = subst (λ (j : ℕ). j < 2 ^ 32) long s.small;
      follows = nearer_only k near s.follows;
      long = s.long ∙ long;
      agrees = sym (take-take k front (table_bytes s.parts) near) ∙ ap (take k) s.agrees ∙ take-take k front (padded bytes missing) near ∙ take-append-le k bytes (zeros missing) le;
    }

pub table_starts : (gs : List Group) (bytes : List ℕ) (parts : List Mark) (front : ℕ) → front ≤ length bytes → IsTable gs bytes parts → Begins gs bytes 0 front
table_starts gs bytes parts front le t = record {
  parts = parts;
  small = subst (λ (k : ℕ). k < 2 ^ 32) (omega arith) t.small;
  follows = nearer_only front le t.follows;
  long = ap length (sym t.spelled) ∙ omega arith;
  agrees = ap (take front) (sym t.spelled);
}

before_or_at : (place there : ℕ) → place ≤ there → (place < there) ⊎ (there ≤ place)
before_or_at zero zero le = inr (omega arith)
before_or_at zero (suc there) le = inl (omega arith)
before_or_at (suc place) zero le = absurd (omega arith)
before_or_at (suc place) (suc there) le = elim (before_or_at place there (omega arith)) [ inl a ↦ inl (omega arith) | inr b ↦ inr (omega arith) ]

module _ (first : List Group) (bytes : List ℕ) (missing : ℕ) (ms : List Mark) (at : ℕ) where
  -- where reading stops
  pub stopped : (g : Group) (gs : List Group) (due besides : Elements) (place : ℕ) → length bytes + missing < 2 ^ 32 → at ≤ length bytes → Reading first (padded bytes missing) ms at (g ∷ gs) due → 0 < g.count
      → besides ≡ pending (less g ∷ gs) → StepStop g.kind g.depth besides (drop at (padded bytes missing)) (length bytes - at) place → IsLayoutFault first bytes missing (at + place)
  stopped g gs due besides place small inside r c e stop =
      let all = padded bytes missing in
      let long = length-padded bytes missing in
      let rest = length-drop at all in
      let near = stop.within in
      let fits : length all < 2 ^ 32 = omega arith in
      let start = so_far first all ms at g gs due besides place fits r c e (omega arith) stop.begins in
      record {
        within = omega arith;
        no_table = λ whole parts t. go whole (before_or_at place (length bytes - at) near) parts t;
        begins = λ k pos le. begun first bytes missing (at + place) k le (omega arith) start;
        none = λ lt b. not_further first all ms at g gs due besides place fits r c e (stop.none (omega arith)) (started first bytes missing (at + place + 1) (omega arith) b);
      }
    where
      go : missing ≡ 0 → (place < length bytes - at) ⊎ (length bytes - at ≤ place) → (parts : List Mark) → IsTable first bytes parts → ⊥
      go whole (inl lt) parts t =
          let all = padded bytes missing in
          let fits : length all < 2 ^ 32 = omega (arith, length-padded bytes missing) in
          let b = subst (λ (k : ℕ). Begins first bytes k (at + place + 1)) (sym whole) (table_starts first bytes parts (at + place + 1) (omega arith) t) in
          not_further first all ms at g gs due besides place fits r c e (stop.none lt) (started first bytes missing (at + place + 1) (omega arith) b)
      go whole (inr over) parts t = let more = stop.more over in absurd (omega (arith, length-drop at (padded bytes missing), length-padded bytes missing))

  -- where nothing is left
  pub none_missing : (due : Elements) → at ≤ length bytes → Reading first (padded bytes missing) ms at [] due → missing ≡ 0
  none_missing due inside r =
      let none : length (padded bytes missing) - at ≡ 0 = nothing_left (subst (λ (e : Elements). ElementsFillRoom e (length (padded bytes missing) - at)) r.counts r.fits) in
      omega (arith, none, length-padded bytes missing)

  pub whole_table : (due : Elements) → length bytes + missing < 2 ^ 32 → at ≤ length bytes → Reading first (padded bytes missing) ms at [] due → IsTable first bytes ms
  whole_table due small inside r =
      let whole = none_missing due inside r in
      let fits : length (padded bytes missing) < 2 ^ 32 = omega (arith, length-padded bytes missing) in
      subst (λ (t : List ℕ). IsTable first t ms) (padded-none bytes missing whole) (over_all first (padded bytes missing) ms at due fits r)

  pub only_table : (due : Elements) (parts : List Mark) → length bytes + missing < 2 ^ 32 → at ≤ length bytes → Reading first (padded bytes missing) ms at [] due → IsTable first bytes parts → parts ≡ ms
  only_table due parts small inside r t =
      let whole = none_missing due inside r in
      let fits : length (padded bytes missing) < 2 ^ 32 = omega (arith, length-padded bytes missing) in
      only_one first (padded bytes missing) ms at due parts fits r (subst (λ (w : List ℕ). IsTable first w parts) (sym (padded-none bytes missing whole)) t)

-- what fits nothing has no table
pub no_room : (gs : List Group) (bytes : List ℕ) (missing : ℕ) → (ElementsFillRoom (pending gs) (length bytes + missing) → ⊥) → IsLayoutFault gs bytes missing 0
no_room gs bytes missing none = record {
  within = omega arith;
  no_table = λ whole parts t. none (subst (λ (k : ℕ). ElementsFillRoom (pending gs) k) (ap length (sym t.spelled) ∙ omega arith) (follows_fill t.follows));
  begins = λ k pos le. absurd (omega arith);
  none = λ lt b. none (subst (λ (k : ℕ). ElementsFillRoom (pending gs) k) b.long (follows_fill b.follows));
}

-- nor has what is too long
pub too_long : (gs : List Group) (bytes : List ℕ) → (length bytes < 2 ^ 32 → ⊥) → IsLayoutFault gs bytes 0 0
too_long gs bytes long = record {
  within = omega arith;
  no_table = λ whole parts t. long t.small;
  begins = λ k pos le. absurd (omega arith);
  none = λ lt b. long (omega (arith, b.small));
}
