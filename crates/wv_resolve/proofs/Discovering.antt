-- The mods of a folder, and the first rule that it breaks, from what was found.
use Rattle.std.proofs.Common.{◌≡◌, inl, inr, ℕ, zero, suc, ◌<◌, List, [], ◌∷◌, length, get_or, Any, Some, None, Result, Ok, Err, IfOk, IfErr, OnOk, ap, sym, ◌∙◌, subst, arith, lit<}
use Rattle.std.specs.List.{AllZip}
use Rattle.std.proofs.lemmas.List.Elements.{All-contains}
use Rattle.wv_base.specs.declared.broken.Broken.{Broken}
use Rattle.wv_base.specs.declared.rule.Rule.{Rule}
use Rattle.wv_base.specs.declared.rule.Rule.TheVariants.{ModBad, IdBad, NestedJars, PredicateBad, DuplicateId, DependsUnmet, BreaksMet}
use Rattle.wv_base.specs.declared.side.Side.{Side}
use Rattle.wv_base.specs.Folder.{File, IsPathBefore, content_of}
use Rattle.wv_base.specs.Rule.{number_of}
use Rattle.wv_mod.specs.FirstBroken.{IsKept, IsFirstBreak, IsFirstOf, here, behind}
use Rattle.wv_mod.specs.declared.fault.Flaw.{Flaw}
use Rattle.wv_mod.specs.declared.fault.Flaw.TheVariants as flaws
use Rattle.wv_mod.specs.declared.fault.ModFault.{ModFault}
use Rattle.wv_mod.specs.declared.fault.ModFault.TheVariants as fault
use Rattle.wv_mod.specs.declared.mod_info.ModInfo.{ModInfo}
use Rattle.wv_mod.specs.Flaw.{IsFlawOf, broken_of}
use Rattle.wv_mod.specs.ModInfo.{IsMod}
use Rattle.wv_mod.proofs.OneFlaw.{mod-no_flaw}
use Rattle.wv_resolve.specs.declared.discovery.Description.{Description}
use Rattle.wv_resolve.specs.declared.kind.Kind.{Kind}
use Rattle.wv_resolve.specs.declared.kind.Kind.TheVariants as kinds
use Rattle.wv_resolve.specs.Refusal.{IsBrokenFault}
use Rattle.wv_resolve.specs.Resolution.{AreResolved, IsBroken, IsUnkept, twice, unmet, met}
use Rattle.wv_resolve.specs.Dependency as dependencies
use Rattle.wv_resolve.specs.Discovery.{NeedsDescription, HasDescription, IsDescribed, AreMods, LacksDescription, HasFlaw, BreakTogether, BreaksRule, IsFirstBroken, AreKept, AreLoadedMods}
use Rattle.wv_resolve.specs.Finding.{AreDescriptions, Describes, IsFlawAmong, IsFirstFlaw}
use Rattle.wv_resolve.proofs.Described.{any-here, any-later, zip-at}
use Rattle.wv_resolve.proofs.OneAnswer.{one-refusal, resolved-not_broken}
use Rattle.wv_resolve.proofs.OneMods.{one-mods}
use Rattle.wv_resolve.proofs.Paths.{not-before_itself}

none-some : (content : List ℕ) → None ≡ Some content → ⊥
none-some content e = cc

some-same : (x y : List ℕ) → Some x ≡ Some y → x ≡ y
some-same x y e = cc

-- ---- The mods of the descriptions

any-zip : {A B : Type 0} (R : A → B → Type 0) (P : A → Type 0) (Q : B → Type 0) → ((x : A) (y : B) → R x y → P x → Q y) → (xs : List A) (ys : List B) → AllZip R xs ys → (k : ℕ) (x : A) → k < length xs → get_or xs k x ≡ x → P x → Any Q ys
any-zip R P Q to [] ys zip k x inside at h = absurd (omega arith)
any-zip R P Q to (w ∷ xs) [] zip k x inside at h = absurd zip
any-zip R P Q to (w ∷ xs) (y ∷ ys) zip zero x inside at h = any-here Q y ys (to w y zip.0 (subst P (sym at) h))
any-zip R P Q to (w ∷ xs) (y ∷ ys) zip (suc k) x inside at h = any-later Q y ys (any-zip R P Q to xs ys zip.1 k x (omega arith) at h)

nothing : Description
nothing = record { path = []; bytes = record { ref_ptr = (0, 0); now = [] } }

path-says : (side : Side) (description : Description) (info : ModInfo) → Describes side description info → info.path ≡ description.path
path-says side description info h = h.2.says.at

pub are-mods : (folder : List File) (side : Side) (descriptions : List Description) (mods : List ModInfo) → AreDescriptions folder descriptions → AllZip (Describes side) descriptions mods → AreMods folder side mods
are-mods folder side descriptions mods found zip = record {
  ordered = λ i j d below inside.
      let first = zip-at (Describes side) descriptions mods zip i nothing d (omega arith) in
      let second = zip-at (Describes side) descriptions mods zip j nothing d inside in
      subst (λ (p : List ℕ). IsPathBefore p (get_or mods j d).path) (sym (path-says side (get_or descriptions i nothing) (get_or mods i d) first.1))
      (subst (IsPathBefore (get_or descriptions i nothing).path) (sym (path-says side (get_or descriptions j nothing) (get_or mods j d) second.1))
      (found.ordered i j nothing below second.0));
  each = λ k d inside.
      let one = zip-at (Describes side) descriptions mods zip k nothing d inside in
      described (get_or descriptions k nothing) (get_or mods k d) (found.each k nothing one.0) one.1;
  all = λ path needs.
      let there = found.all path needs in
      any-zip (Describes side) (λ d. d.path ≡ path) (λ info. info.path ≡ path) (λ d info says same. path-says side d info says ∙ same) descriptions mods zip there.0 there.1 there.2 there.3 there.4;
}
  where
    described : (d : Description) (info : ModInfo) → HasDescription folder (d.path, d.bytes.now) → Describes side d info → IsDescribed folder side info
    described d info has says =
        let same : d.path ≡ info.path = sym (path-says side d info says) in
        (d.bytes.now, subst (λ (p : List ℕ). HasDescription folder (p, d.bytes.now)) same has, subst (λ (p : List ℕ). IsMod p d.bytes.now side info) same says)

-- ---- Where descriptions are kept

-- the content of the description that the folder of a mod needs
content-said : (folder : List File) (side : Side) (mods : List ModInfo) (path : List ℕ) → AreMods folder side mods → NeedsDescription folder path → (info : ModInfo) × (content : List ℕ) × (content_of path folder ≡ Some content) × IsMod info.path content side info
content-said folder side mods path are needs =
    let there = are.all path needs in
    let described = All-contains (IsDescribed folder side) mods there.1 are.each (there.0, there.2, there.3) in
    (there.1, described.0, subst (λ (p : List ℕ). content_of p folder ≡ Some described.0) there.4 described.1.1, described.2)

none-lacking : (folder : List File) (side : Side) (mods : List ModInfo) → AreMods folder side mods → IsKept (LacksDescription folder)
none-lacking folder side mods are broken (path, needs, lacks, told) =
    let said = content-said folder side mods path are needs in
    none-some said.1 (sym lacks ∙ said.2)

none-flawed : (folder : List File) (side : Side) (mods : List ModInfo) (rule : Rule) → AreMods folder side mods → IsKept (HasFlaw folder rule)
none-flawed folder side mods rule are broken (file, has, flaw, is, told, of) =
    let said = content-said folder side mods file.0 are has.0 in
    let same : file.1 ≡ said.1 = some-same file.1 said.1 (sym has.1 ∙ said.2) in
    mod-no_flaw said.0.path said.1 side said.0 flaw said.3 (subst (λ (c : List ℕ). IsFlawOf c flaw) same is)

-- behind the rules on descriptions, which all are kept
behind-descriptions : (builtin : List (List ℕ × List ℕ)) (folder : List File) (side : Side) (mods : List ModInfo) (broken : Broken) → AreMods folder side mods → IsFirstOf (BreaksRule builtin folder side) (DuplicateId ∷ DependsUnmet ∷ BreaksMet ∷ []) broken → IsFirstBroken builtin folder side broken
behind-descriptions builtin folder side mods broken are first =
    behind (none-lacking folder side mods are) (behind (none-flawed folder side mods ModBad are) (behind (none-flawed folder side mods IdBad are) (behind (none-flawed folder side mods NestedJars are) (behind (none-flawed folder side mods PredicateBad are) first))))

-- ---- The mods together

pub together-one : (builtin : List (List ℕ × List ℕ)) (folder : List File) (side : Side) (rule rule' : Rule) (broken other : Broken) → BreakTogether builtin folder side rule broken → BreakTogether builtin folder side rule' other → broken ≡ other
together-one builtin folder side rule rule' broken other g h =
    one-refusal builtin h.0 broken other (subst (λ (ms : List ModInfo). IsBroken builtin ms broken) (one-mods folder side g.0 h.0 g.1 h.1) g.2) h.2

module _ (builtin : List (List ℕ × List ℕ)) (folder : List File) (side : Side) (broken : Broken) where
  first-together : (rule : Rule) → BreakTogether builtin folder side rule broken → IsFirstBreak (BreakTogether builtin folder side rule) broken
  first-together rule breaks = record {
    here = breaks;
    first = λ other also before. not-before_itself broken.place.file (subst (λ (b : Broken). IsPathBefore b.place.file broken.place.file) (together-one builtin folder side rule rule other broken also breaks) before);
  }

  -- another rule isn't broken
  other-kept : (rule other : Rule) → BreakTogether builtin folder side rule broken → (rule ≡ other → ⊥) → IsKept (BreakTogether builtin folder side other)
  other-kept rule other breaks apart broken' also =
      apart (sym breaks.3 ∙ ap (λ (b : Broken). b.rule) (together-one builtin folder side rule other broken broken' breaks also) ∙ also.3)

  of-kind : (kind : Kind) (loaded : List ModInfo) → IsUnkept kind builtin loaded broken → broken.rule ≡ dependencies.rule_of kind
  of-kind kind loaded h = ap (λ (b : Broken). b.rule) h.2.2

  pub first-of_mods : (mods : List ModInfo) → AreMods folder side mods → IsBroken builtin mods broken → IsFirstBroken builtin folder side broken
  first-of_mods mods are (loaded, are_loaded, twice b h) =
      let breaks : BreakTogether builtin folder side DuplicateId broken = (mods, are, (loaded, are_loaded, twice b h), ap (λ (b : Broken). b.rule) h.2) in
      behind-descriptions builtin folder side mods broken are (here (first-together DuplicateId breaks))
  first-of_mods mods are (loaded, are_loaded, unmet b distinct h) =
      let breaks : BreakTogether builtin folder side DependsUnmet broken = (mods, are, (loaded, are_loaded, unmet b distinct h), of-kind kinds.Depends loaded h) in
      behind-descriptions builtin folder side mods broken are
      (behind (other-kept DependsUnmet DuplicateId breaks (λ e. cc)) (here (first-together DependsUnmet breaks)))
  first-of_mods mods are (loaded, are_loaded, met b distinct depends h) =
      let breaks : BreakTogether builtin folder side BreaksMet broken = (mods, are, (loaded, are_loaded, met b distinct depends h), of-kind kinds.Breaks loaded h) in
      behind-descriptions builtin folder side mods broken are
      (behind (other-kept BreaksMet DuplicateId breaks (λ e. cc)) (behind (other-kept BreaksMet DependsUnmet breaks (λ e. cc)) (here (first-together BreaksMet breaks))))

-- mods that are resolved break nothing together
none-together : (builtin : List (List ℕ × List ℕ)) (folder : List File) (side : Side) (mods resolved : List ModInfo) (rule : Rule) → AreMods folder side mods → AreResolved builtin mods resolved → IsKept (BreakTogether builtin folder side rule)
none-together builtin folder side mods resolved rule are fit broken (mods', are', breaks, of) =
    resolved-not_broken builtin mods resolved broken fit (subst (λ (ms : List ModInfo). IsBroken builtin ms broken) (one-mods folder side mods' mods are' are) breaks)

pub loaded-kept : (builtin : List (List ℕ × List ℕ)) (folder : List File) (side : Side) (loaded : List ModInfo) → AreLoadedMods builtin folder side loaded → AreKept builtin folder side
loaded-kept builtin folder side loaded (mods, are, fit) = (
  none-lacking folder side mods are,
  (
    none-flawed folder side mods ModBad are,
    (
      none-flawed folder side mods IdBad are,
      (
        none-flawed folder side mods NestedJars are,
        (
          none-flawed folder side mods PredicateBad are,
          (
            none-together builtin folder side mods loaded DuplicateId are fit,
            (
              none-together builtin folder side mods loaded DependsUnmet are fit,
              (none-together builtin folder side mods loaded BreaksMet are fit, tt),
            ),
          ),
        ),
      ),
    ),
  ),
)

-- ---- The first flaw

module _ (folder : List File) (descriptions : List Description) (found : AreDescriptions folder descriptions) where
  described-none_lacking : IsKept (LacksDescription folder)
  described-none_lacking broken (path, needs, lacks, told) =
      let there = found.all path needs in
      let has = All-contains (λ (d : Description). HasDescription folder (d.path, d.bytes.now)) descriptions there.1 found.each (there.0, there.2, there.3) in
      none-some there.1.bytes.now (sym lacks ∙ ap (λ p. content_of p folder) (sym there.4) ∙ has.1)

  -- a flaw of a description is among those that were found
  among : (rule : Rule) (broken : Broken) → HasFlaw folder rule broken → IsFlawAmong descriptions broken
  among rule broken (file, has, flaw, is, told, of) =
      let there = found.all file.0 has.0 in
      let also = All-contains (λ (d : Description). HasDescription folder (d.path, d.bytes.now)) descriptions there.1 found.each (there.0, there.2, there.3) in
      let same : file.1 ≡ there.1.bytes.now = some-same file.1 there.1.bytes.now (sym has.1 ∙ ap (λ p. content_of p folder) (sym there.4) ∙ also.1) in
      (there.0, there.1, there.2, there.3, (flaw, subst (λ (c : List ℕ). IsFlawOf c flaw) same is, told ∙ ap (λ p. broken_of p flaw) (sym there.4)))

  module _ (broken : Broken) (h : IsFirstFlaw descriptions broken) where
    -- rules with smaller numbers are kept
    smaller-kept : (rule : Rule) → number_of rule < number_of broken.rule → IsKept (HasFlaw folder rule)
    smaller-kept rule less other flawed = h.first other (among rule other flawed) (inl (subst (λ (r : Rule). number_of r < number_of broken.rule) (sym flawed.5) less))

    first-flawed : (rule : Rule) → HasFlaw folder rule broken → IsFirstBreak (HasFlaw folder rule) broken
    first-flawed rule flawed = record {
      here = flawed;
      first = λ other also before. h.first other (among rule other also) (inr (ap number_of (also.5 ∙ sym flawed.5), before));
    }

    module _ (builtin : List (List ℕ × List ℕ)) (side : Side) where
      by-flaw : (description : Description) (flaw : Flaw) → HasDescription folder (description.path, description.bytes.now) → IsFlawOf description.bytes.now flaw → broken ≡ broken_of description.path flaw → IsFirstBroken builtin folder side broken
      by-flaw d flaws.Json has is told =
          behind described-none_lacking (here (first-flawed ModBad ((d.path, d.bytes.now), has, flaws.Json, is, told, ap (λ (b : Broken). b.rule) told)))
      by-flaw d (flaws.Key key) has is told =
          behind described-none_lacking (here (first-flawed ModBad ((d.path, d.bytes.now), has, flaws.Key key, is, told, ap (λ (b : Broken). b.rule) told)))
      by-flaw d (flaws.Id text) has is told =
          let of : broken.rule ≡ IdBad = ap (λ (b : Broken). b.rule) told in
          behind described-none_lacking (behind (smaller-kept ModBad (rw of (lit< tt))) (here (first-flawed IdBad ((d.path, d.bytes.now), has, flaws.Id text, is, told, of))))
      by-flaw d flaws.Jars has is told =
          let of : broken.rule ≡ NestedJars = ap (λ (b : Broken). b.rule) told in
          behind described-none_lacking (behind (smaller-kept ModBad (rw of (lit< tt))) (behind (smaller-kept IdBad (rw of (lit< tt)))
          (here (first-flawed NestedJars ((d.path, d.bytes.now), has, flaws.Jars, is, told, of)))))
      by-flaw d (flaws.Predicate text) has is told =
          let of : broken.rule ≡ PredicateBad = ap (λ (b : Broken). b.rule) told in
          behind described-none_lacking (behind (smaller-kept ModBad (rw of (lit< tt))) (behind (smaller-kept IdBad (rw of (lit< tt))) (behind (smaller-kept NestedJars (rw of (lit< tt)))
          (here (first-flawed PredicateBad ((d.path, d.bytes.now), has, flaws.Predicate text, is, told, of))))))

      first-of_flaws : IsFirstBroken builtin folder side broken
      first-of_flaws =
          let there = h.here in
          by-flaw there.1 there.4.0 (All-contains (λ (d : Description). HasDescription folder (d.path, d.bytes.now)) descriptions there.1 found.each (there.0, there.2, there.3)) there.4.1 there.4.2

-- ---- What was answered

module _ (builtin : List (List ℕ × List ℕ)) (folder : List File) (side : Side) where
  pub lacking-fault : (f : ModFault) → IsBrokenFault (IsFirstBreak (LacksDescription folder)) f → IsBrokenFault (IsFirstBroken builtin folder side) f
  lacking-fault fault.Memory h = tt
  lacking-fault (fault.Broken broken) h = here h

  pub flaw-fault : (descriptions : List Description) (f : ModFault) → AreDescriptions folder descriptions → IsBrokenFault (IsFirstFlaw descriptions) f → IsBrokenFault (IsFirstBroken builtin folder side) f
  flaw-fault descriptions fault.Memory found h = tt
  flaw-fault descriptions (fault.Broken broken) found h = first-of_flaws folder descriptions found broken h builtin side

  pub mods-fault : (mods : List ModInfo) (f : ModFault) → AreMods folder side mods → IsBrokenFault (IsBroken builtin mods) f → IsBrokenFault (IsFirstBroken builtin folder side) f
  mods-fault mods fault.Memory are h = tt
  mods-fault mods (fault.Broken broken) are h = first-of_mods builtin folder side broken mods are h

  module _ {V : Type 0} (items : V → List ModInfo) (mods : List ModInfo) (are : AreMods folder side mods) where
    pub mods-loaded : (r : Result V ModFault) → IfOk r (λ v. AreResolved builtin mods (items v)) → IfOk r (λ v. AreLoadedMods builtin folder side (items v))
    mods-loaded (Ok v) h = (mods, are, h)
    mods-loaded (Err f) h = tt

    pub mods-kept : (r : Result V ModFault) → IfOk r (λ v. AreResolved builtin mods (items v)) → OnOk r (AreKept builtin folder side)
    mods-kept (Ok v) h = loaded-kept builtin folder side (items v) (mods, are, h)
    mods-kept (Err f) h = tt

    pub mods-refused : (r : Result V ModFault) → IfErr r (IsBrokenFault (IsBroken builtin mods)) → IfErr r (IsBrokenFault (IsFirstBroken builtin folder side))
    mods-refused (Ok v) h = tt
    mods-refused (Err f) h = mods-fault mods f are h
