-- One of the first rules is the first that a folder breaks, or it breaks none.
use Rattle.std.proofs.Common.{◌≡◌, inl, inr, ℕ, Bool, true, false, List, Some, None, Result, Ok, Err, IfErr, OnOk, refl, ap, sym, ◌∙◌, subst}
use Rattle.std.specs.Cmp.Lexicographic.{slice_cmp}
use Rattle.std.specs.List.{AllByRecursion}
use Rattle.std.specs.Ordering.{nat_cmp, is_lt}
use Rattle.std.specs.declared.cmp.Ordering.{Ordering}
use Rattle.std.specs.declared.cmp.Ordering.TheVariants.{Less, Equal, Greater}
use Rattle.wv_base.specs.declared.broken.Broken.{Broken}
use Rattle.wv_base.specs.declared.rule.Rule.{Rule}
use Rattle.wv_base.specs.declared.rule.Rule.TheVariants.{JarFile, GameMissing, GameBad, TooMuch}
use Rattle.wv_base.specs.Folder.{File, IsPathBefore, content_of}
use Rattle.wv_mod.specs.FirstBroken.{IsKept, IsFirstBreak, IsFirstOf, here, behind}
use Rattle.wv_mod.specs.GameFlaw.{IsGameBroken, game_bad}
use Rattle.wv_mod.proofs.Games.{same_refusal}
use Rattle.wv_resolve.specs.Presence.{game_path}
use Rattle.wv_resolve.proofs.FirstRule.{IsOneAt, one-first_of, kept-not_first}
use Rattle.wv_resolve.proofs.Paths.{not-before_itself}
use Rattle.wv_front.specs.declared.fault.WeaveFault.{WeaveFault}
use Rattle.wv_front.specs.declared.fault.WeaveFault.TheVariants as fault
use Rattle.wv_front.specs.declared.limit.Limit.{Limit}
use Rattle.wv_front.specs.declared.limit.Cut.{Cut}
use Rattle.wv_front.specs.Opening.{PassesAt, HasJar, jar_file, LacksGame, game_missing, HasBadGame, HasTooMuch, IsFirstUnlisted, too_much, BreaksOpening, opening_rules, Everywhere, IsOpened, IsFirstUnopened, IsBeforeCut, IsCutAt, IsFirstCut, IsBrokenFault}
use Rattle.wv_front.specs.FilesRead.{IsReached, AreOpened, IsFirstOfFiles}
use Rattle.wv_front.proofs.Limits.{one-passing}

path-of : (broken other : Broken) → broken ≡ other → broken.place.file ≡ other.place.file
path-of broken other e = ap (λ (b : Broken). b.place.file) e

-- where all breaks are at one path, each is the first
first-alone : (IsBroken : Broken → Type 0) (path : List ℕ) (broken : Broken) → ((other : Broken) → IsBroken other → other.place.file ≡ path) → IsBroken broken → IsFirstBreak IsBroken broken
first-alone IsBroken path broken at is = record {
  here = is;
  first = λ other also before.
      not-before_itself path
      (subst (λ (p : List ℕ). IsPathBefore p path) (at other also) (subst (IsPathBefore other.place.file) (at broken is) before));
}

-- ---- Results

pub err-weaker : {A : Type 0} (r : Result A WeaveFault) (P Q : WeaveFault → Type 0) → ((f : WeaveFault) → P f → Q f) → IfErr r P → IfErr r Q
err-weaker (Ok x) P Q to h = h
err-weaker (Err f) P Q to h = to f h

pub ok-weaker : {A : Type 0} (r : Result A WeaveFault) (P Q : Type 0) → (P → Q) → OnOk r P → OnOk r Q
ok-weaker (Ok x) P Q to h = to h
ok-weaker (Err f) P Q to h = h

-- ---- Rule 2

some-none : (content : List ℕ) → Some content ≡ None → ⊥
some-none content e = cc

pub game-listed : (folder : List File) (content : List ℕ) → content_of game_path folder ≡ Some content → IsKept (LacksGame folder)
game-listed folder content is broken (none, told) = some-none content (sym is ∙ none)

pub game-unlisted : (folder : List File) → content_of game_path folder ≡ None → IsFirstBreak (LacksGame folder) game_missing
game-unlisted folder none = first-alone (LacksGame folder) game_path game_missing (λ other lacks. path-of other game_missing lacks.1) (none, refl)

-- ---- Rule 3

some-same : (x y : List ℕ) → Some x ≡ Some y → x ≡ y
some-same x y e = cc

game-path : (content : List ℕ) (broken : Broken) → IsGameBroken content broken → broken.place.file ≡ game_path
game-path content broken bad = path-of broken (game_bad bad.0) bad.2

module _ (Counts : List ℕ → Type 0) (folder : List File) where
  pub game-uncounted : (Counts game_path → ⊥) → IsKept (HasBadGame Counts folder)
  game-uncounted none broken (content, is, counts, bad) = none counts

  module _ (content : List ℕ) (listed : content_of game_path folder ≡ Some content) where
    same-content : (other : List ℕ) → content_of game_path folder ≡ Some other → other ≡ content
    same-content other is = some-same other content (sym is ∙ listed)

    pub game-right : IsKept (IsGameBroken content) → IsKept (HasBadGame Counts folder)
    game-right kept broken (other, is, counts, bad) =
        kept broken (subst (λ (c : List ℕ). IsGameBroken c broken) (same-content other is) bad)

    game-wrong : (broken : Broken) → Counts game_path → IsGameBroken content broken → IsFirstBreak (HasBadGame Counts folder) broken
    game-wrong broken counts bad =
        first-alone (HasBadGame Counts folder) game_path broken (λ other has. game-path has.0 other has.3) (content, listed, counts, bad)

-- what the comparison with the cut tells
less-told : (o : Ordering) → is_lt o ≡ true → o ≡ Less
less-told Less e = refl
less-told Equal e = cc
less-told Greater e = cc

not_less-told : (o : Ordering) → is_lt o ≡ false → o ≡ Less → ⊥
not_less-told o e less = let clash : is_lt Less ≡ false = ap is_lt (sym less) ∙ e in cc

module _ (path read at : List ℕ) (same : read ≡ at) (b : Bool) (told : b ≡ is_lt (slice_cmp nat_cmp path read)) where
  pub before-told : b ≡ true → IsPathBefore path at
  before-told is = subst (IsPathBefore path) same (less-told (slice_cmp nat_cmp path read) (sym told ∙ is))

  pub not_before-told : b ≡ false → IsPathBefore path at → ⊥
  not_before-told is before = not_less-told (slice_cmp nat_cmp path read) (sym told ∙ is) (subst (IsPathBefore path) (sym same) before)

-- ---- Rule 5

-- a limit is passed in one way
abbrev IsOnePassing : (List ℕ → Limit → Type 0) → Type 0
IsOnePassing Passes = (path other : List ℕ) (limit last : Limit) → Passes path limit → Passes other last → (path ≡ other) × (limit ≡ last)

one-cut : (cut : Cut) → IsOnePassing (IsCutAt cut)
one-cut cut path other limit last g h = (g.0 ∙ sym h.0, g.1 ∙ sym h.1)

much-first : (Passes : List ℕ → Limit → Type 0) → IsOnePassing Passes → (path : List ℕ) (limit : Limit) → Passes path limit → IsFirstBreak (HasTooMuch Passes) (too_much path limit)
much-first Passes one path limit passes =
    first-alone (HasTooMuch Passes) path (too_much path limit)
    (λ other much. path-of other (too_much much.0 much.1) much.3 ∙ (one much.0 path much.1 limit much.2 passes).0) (path, limit, passes, refl)

pub passing-kept : (folder : List File) → ((path : List ℕ) (limit : Limit) → PassesAt folder path limit → ⊥) → IsKept (HasTooMuch (PassesAt folder))
passing-kept folder none broken (path, limit, passes, told) = none path limit passes

pub passing-first : (folder : List File) (path : List ℕ) (limit : Limit) (broken : Broken) → PassesAt folder path limit → broken ≡ too_much path limit → IsFirstBreak (HasTooMuch (PassesAt folder)) broken
passing-first folder path limit broken passes told =
    subst (IsFirstBreak (HasTooMuch (PassesAt folder))) (sym told) (much-first (PassesAt folder) (one-passing folder) path limit passes)

-- ---- The first of the rules

pub jar-unlisted : (folder : List File) (f : WeaveFault) → IsBrokenFault (IsFirstBreak (HasJar folder)) f → IsBrokenFault (IsFirstUnlisted folder) f
jar-unlisted folder (fault.Broken broken) first = inl first
jar-unlisted folder fault.Memory first = tt

pub game-unlisted_too : (folder : List File) → IsKept (HasJar folder) → (f : WeaveFault) → IsBrokenFault (IsFirstBreak (LacksGame folder)) f → IsBrokenFault (IsFirstUnlisted folder) f
game-unlisted_too folder no_jar (fault.Broken broken) first = inr (no_jar, first)
game-unlisted_too folder no_jar fault.Memory first = tt

module _ (Counts : List ℕ → Type 0) (Passes : List ℕ → Limit → Type 0) (folder : List File) where
  abbrev First : Broken → Type 0
  First = IsFirstOf (BreaksOpening Counts Passes folder) opening_rules

  pub unlisted-refused : (f : WeaveFault) → IsBrokenFault (IsFirstUnlisted folder) f → IsBrokenFault First f
  unlisted-refused (fault.Broken broken) (inl first) = here first
  unlisted-refused (fault.Broken broken) (inr (no_jar, first)) = behind no_jar (here first)
  unlisted-refused fault.Memory first = tt

  module _ (no_jar : IsKept (HasJar folder)) where
    module _ (game : IsKept (LacksGame folder)) where
      pub bad-refused : (content : List ℕ) → content_of game_path folder ≡ Some content → Counts game_path → (f : WeaveFault) → IsBrokenFault (IsGameBroken content) f → IsBrokenFault First f
      bad-refused content listed counts (fault.Broken broken) bad =
          behind no_jar (behind game (here (game-wrong Counts folder content listed broken counts bad)))
      bad-refused content listed counts fault.Memory bad = tt

      module _ (right : IsKept (HasBadGame Counts folder)) where
        pub much-refused : (f : WeaveFault) → IsBrokenFault (IsFirstBreak (HasTooMuch Passes)) f → IsBrokenFault First f
        much-refused (fault.Broken broken) first = behind no_jar (behind game (behind right (here first)))
        much-refused fault.Memory first = tt

        pub cut-refused : IsOnePassing Passes → (path : List ℕ) (limit : Limit) (broken : Broken) → Passes path limit → broken ≡ too_much path limit → First broken
        cut-refused one path limit broken passes told =
            behind no_jar (behind game (behind right (here (subst (IsFirstBreak (HasTooMuch Passes)) (sym told) (much-first Passes one path limit passes)))))

        pub all-kept : IsKept (HasTooMuch Passes) → AllByRecursion (λ rule. IsKept (BreaksOpening Counts Passes folder rule)) opening_rules
        all-kept much = (no_jar, (game, (right, (much, tt))))

pub at-cut : (folder : List File) (cut : Cut) → IsKept (HasJar folder) → IsKept (LacksGame folder) → IsKept (HasBadGame (IsBeforeCut cut) folder) → (broken : Broken) → broken ≡ too_much cut.path cut.limit → IsFirstCut folder cut broken
at-cut folder cut no_jar game right broken told =
    cut-refused (IsBeforeCut cut) (IsCutAt cut) folder no_jar game right (one-cut cut) cut.path cut.limit broken (refl, refl) told

-- ---- One refusal

jar-one : (folder : List File) → IsOneAt (HasJar folder)
jar-one folder broken other (k, file, inside, at, (ends, told)) (k', file', inside', at', (ends', told')) same =
    told ∙ ap jar_file (sym (path-of broken (jar_file file.0) told) ∙ same ∙ path-of other (jar_file file'.0) told') ∙ sym told'

game-one : (Counts : List ℕ → Type 0) (folder : List File) → IsOneAt (HasBadGame Counts folder)
game-one Counts folder broken other (content, is, counts, bad) (content', is', counts', bad') same =
    same_refusal content' broken other (subst (λ (c : List ℕ). IsGameBroken c broken) (some-same content content' (sym is ∙ is')) bad) bad'

much-one : (Passes : List ℕ → Limit → Type 0) → IsOnePassing Passes → IsOneAt (HasTooMuch Passes)
much-one Passes one broken other (path, limit, passes, told) (path', limit', passes', told') same =
    let both = one path path' limit limit' passes passes' in
    told ∙ ap (λ p. too_much p limit) both.0 ∙ ap (too_much path') both.1 ∙ sym told'

rule-one : (Counts : List ℕ → Type 0) (Passes : List ℕ → Limit → Type 0) (folder : List File) → IsOnePassing Passes → (rule : Rule) → IsOneAt (BreaksOpening Counts Passes folder rule)
rule-one Counts Passes folder one JarFile broken other g h same = jar-one folder broken other g h same
rule-one Counts Passes folder one GameMissing broken other g h same = g.1 ∙ sym h.1
rule-one Counts Passes folder one GameBad broken other g h same = game-one Counts folder broken other g h same
rule-one Counts Passes folder one TooMuch broken other g h same = much-one Passes one broken other g h same
rule-one Counts Passes folder one _ broken other g h same = absurd g

pub one-unopened : (folder : List File) (broken other : Broken) → IsFirstUnopened folder broken → IsFirstUnopened folder other → broken ≡ other
one-unopened folder broken other g h =
    one-first_of (BreaksOpening Everywhere (PassesAt folder) folder) (rule-one Everywhere (PassesAt folder) folder (one-passing folder)) opening_rules broken other g h

pub one-first_cut : (folder : List File) (cut : Cut) (broken other : Broken) → IsFirstCut folder cut broken → IsFirstCut folder cut other → broken ≡ other
one-first_cut folder cut broken other g h =
    one-first_of (BreaksOpening (IsBeforeCut cut) (IsCutAt cut) folder) (rule-one (IsBeforeCut cut) (IsCutAt cut) folder (one-cut cut)) opening_rules broken other g h

pub opened-not_first : (folder : List File) (broken : Broken) → IsOpened folder → IsFirstUnopened folder broken → ⊥
opened-not_first folder broken kept first = kept-not_first (BreaksOpening Everywhere (PassesAt folder) folder) opening_rules broken kept first

pub one-of_files : (files : List File) (broken other : Broken) → IsFirstOfFiles files broken → IsFirstOfFiles files other → broken ≡ other
one-of_files files broken other g h =
    one-first_of (BreaksOpening (IsReached files) (PassesAt files) files) (rule-one (IsReached files) (PassesAt files) files (one-passing files)) opening_rules broken other g h

pub files-not_first : (files : List File) (broken : Broken) → AreOpened files → IsFirstOfFiles files broken → ⊥
files-not_first files broken kept first = kept-not_first (BreaksOpening (IsReached files) (PassesAt files) files) opening_rules broken kept first
