-- The first that is wrong with a description of the game, and that bytes are one game or are refused in one way.
use Rattle.std.proofs.Common.{◌≡◌, ℕ, List, [], ◌∷◌, ◌++◌, Option, Some, None, refl, sym, ap, ◌∙◌, subst}
use Rattle.std.specs.List.{AllByRecursion}
use Rattle.serde_json.specs.Data.{Data, Members, no_members, member, object}
use Rattle.serde_json.specs.Read.{read}
use Rattle.wv_base.specs.declared.broken.Broken.{Broken}
use Rattle.wv_json.specs.Kind.{IsText, IsObjectOf, AreMembers}
use Rattle.wv_json.specs.Object.{IsObjectText}
use Rattle.wv_mod.specs.declared.game_flaw.GameFlaw.{GameFlaw}
use Rattle.wv_mod.specs.declared.game_flaw.GameFlaw.TheVariants.{Json, Id, Version, Main, Builtin}
use Rattle.wv_mod.specs.declared.game_info.GameInfo.{GameInfo}
use Rattle.wv_mod.specs.Field.{IsRequired, IsOptional}
use Rattle.wv_mod.specs.Flaw.{IsFirstWithout}
use Rattle.wv_mod.specs.Manifest.{HasId, HasVersion}
use Rattle.wv_mod.specs.Slashes.{with_slashes}
use Rattle.wv_mod.specs.GameInfo.{HasMain, HasBuiltin, IsGameOf, IsGame}
use Rattle.wv_mod.specs.GameFlaw.{game_order, game_bad, IsRightAt, IsRightIn, IsGameBroken}

same_some : {A : Type 0} (o : Option A) (x y : A) → o ≡ Some x → o ≡ Some y → x ≡ y
same_some o x y a b = cc

same_object : (bytes : List ℕ) (value other : Data) → IsObjectText bytes value → IsObjectText bytes other → value ≡ other
same_object bytes value other text text' = same_some (read bytes) value other text.whole text'.whole

-- ---- The first that is wrong

-- where the object isn't right at the key, the bytes aren't
wrong-in : (bytes : List ℕ) (value : Data) (flaw : GameFlaw) → IsObjectText bytes value → (IsRightAt value flaw → ⊥) → IsRightIn bytes flaw → ⊥
wrong-in bytes value flaw text wrong right =
    wrong (subst (λ (v : Data). IsRightAt v flaw) (same_object bytes right.0 value right.1 text) right.2)

pub wrong-json : (bytes : List ℕ) → ((value : Data) → IsObjectText bytes value → ⊥) → IsFirstWithout (IsRightIn bytes) game_order Json
wrong-json bytes none = record {
  front = [];
  after = Id ∷ Version ∷ Main ∷ Builtin ∷ [];
  split = refl;
  before = tt;
  lacks = λ right. none right.0 right.1;
}

pub wrong-id : (bytes : List ℕ) (value : Data) → IsObjectText bytes value → ((id : List ℕ) → HasId value id → ⊥) → IsFirstWithout (IsRightIn bytes) game_order Id
wrong-id bytes value text none = record {
  front = Json ∷ [];
  after = Version ∷ Main ∷ Builtin ∷ [];
  split = refl;
  before = ((value, text, tt), tt);
  lacks = wrong-in bytes value Id text (λ right. none right.0 right.1);
}

pub wrong-version : (bytes : List ℕ) (value : Data) (id : List ℕ) → IsObjectText bytes value → HasId value id → ((version : List ℕ) → HasVersion value version → ⊥) → IsFirstWithout (IsRightIn bytes) game_order Version
wrong-version bytes value id text has-id none = record {
  front = Json ∷ Id ∷ [];
  after = Main ∷ Builtin ∷ [];
  split = refl;
  before = ((value, text, tt), ((value, text, (id, has-id)), tt));
  lacks = wrong-in bytes value Version text (λ right. none right.0 right.1);
}

pub wrong-main : (bytes : List ℕ) (value : Data) (id version : List ℕ) → IsObjectText bytes value → HasId value id → HasVersion value version → ((main : List ℕ) → HasMain value main → ⊥) → IsFirstWithout (IsRightIn bytes) game_order Main
wrong-main bytes value id version text has-id has-version none = record {
  front = Json ∷ Id ∷ Version ∷ [];
  after = Builtin ∷ [];
  split = refl;
  before = ((value, text, tt), ((value, text, (id, has-id)), ((value, text, (version, has-version)), tt)));
  lacks = wrong-in bytes value Main text (λ right. none right.0 right.1);
}

pub wrong-builtin : (bytes : List ℕ) (value : Data) (id version main : List ℕ) → IsObjectText bytes value → HasId value id → HasVersion value version → HasMain value main → ((entries : List (List ℕ × List ℕ)) → HasBuiltin value entries → ⊥) → IsFirstWithout (IsRightIn bytes) game_order Builtin
wrong-builtin bytes value id version main text has-id has-version has-main none = record {
  front = Json ∷ Id ∷ Version ∷ Main ∷ [];
  after = [];
  split = refl;
  before = ((value, text, tt), ((value, text, (id, has-id)), ((value, text, (version, has-version)), ((value, text, (main, has-main)), tt))));
  lacks = wrong-in bytes value Builtin text (λ right. none right.0 right.1);
}

-- ---- One game

one_text : (found : Option Data) (x y : List ℕ) → IsRequired IsText found x → IsRequired IsText found y → x ≡ y
one_text None x y a b = absurd a
one_text (Some value) x y a b = cc

one_main : (value : Data) (x y : List ℕ) → HasMain value x → HasMain value y → x ≡ y
one_main value x y a b = a.2 ∙ ap with_slashes (one_text _ a.0 b.0 a.1 b.1) ∙ sym b.2

one_entries : (members : Members) (xs ys : List (List ℕ × List ℕ)) → AreMembers IsText members xs → AreMembers IsText members ys → xs ≡ ys
one_entries no_members [] [] a b = refl
one_entries no_members [] (y ∷ ys) a b = absurd b
one_entries no_members (x ∷ xs) ys a b = absurd a
one_entries (member key value rest) [] ys a b = absurd a
one_entries (member key value rest) (x ∷ xs) [] a b = absurd b
one_entries (member key value rest) (x ∷ xs) (y ∷ ys) a b =
    let same_key : x.0 ≡ y.0 = a.0 ∙ sym b.0 in
    let same_text : x.1 ≡ y.1 = one_text (Some value) x.1 y.1 a.1 b.1 in
    let more = one_entries rest xs ys a.2 b.2 in
    λ i. (same_key i, same_text i) ∷ more i

same_members : (ms ns : Members) → object ms ≡ object ns → ms ≡ ns
same_members ms ns e = cc

one_builtin : (found : Option Data) (xs ys : List (List ℕ × List ℕ)) → IsOptional (IsObjectOf IsText) [] found xs → IsOptional (IsObjectOf IsText) [] found ys → xs ≡ ys
one_builtin None xs ys a b = a ∙ sym b
one_builtin (Some value) xs ys a b =
    let same = same_members a.0 b.0 (sym a.1 ∙ b.1) in
    one_entries b.0 xs ys (subst (λ (ms : Members). AreMembers IsText ms xs) same a.2) b.2

same_values : (value : Data) (info other : GameInfo) → IsGameOf value info → IsGameOf value other → info ≡ other
same_values value info other a b =
    let id = one_text _ info.id other.id a.id b.id in
    let version = one_text _ info.version other.version a.version b.version in
    let main = one_main value info.main other.main a.main b.main in
    let builtin = one_builtin _ info.builtin other.builtin a.builtin b.builtin in
    λ i. record { id = id i; version = version i; main = main i; builtin = builtin i }

pub same_game : (bytes : List ℕ) (info other : GameInfo) → IsGame bytes info → IsGame bytes other → info ≡ other
same_game bytes info other a b =
    same_values b.0 info other (subst (λ (v : Data). IsGameOf v info) (same_object bytes a.0 b.0 a.1 b.1) a.2) b.2

-- ---- Kept or refused

-- the bytes of a game are right in each way
each_right : (bytes : List ℕ) (info : GameInfo) → IsGame bytes info → (flaw : GameFlaw) → IsRightIn bytes flaw
each_right bytes info is Json = (is.0, is.1, tt)
each_right bytes info is Id = (is.0, is.1, (info.id, is.2.id))
each_right bytes info is Version = (is.0, is.1, (info.version, is.2.version))
each_right bytes info is Main = (is.0, is.1, (info.main, is.2.main))
each_right bytes info is Builtin = (is.0, is.1, (info.builtin, is.2.builtin))

pub game_kept : (bytes : List ℕ) (info : GameInfo) (broken : Broken) → IsGame bytes info → IsGameBroken bytes broken → ⊥
game_kept bytes info broken is is_broken = is_broken.1.lacks (each_right bytes info is is_broken.0)

-- ---- One refusal

-- of one list one is the first that lacks the property
one_first : {A : Type 0} (Has : A → Type 0) (list front after front' after' : List A) (x y : A) → list ≡ front ++ x ∷ after → list ≡ front' ++ y ∷ after' → AllByRecursion Has front → AllByRecursion Has front' → (Has x → ⊥) → (Has y → ⊥) → x ≡ y
one_first Has list [] after [] after' x y e e' h h' lacks lacks' = cc
one_first Has list [] after (k ∷ front') after' x y e e' h h' lacks lacks' =
    let same : k ≡ x = cc in absurd (lacks (subst Has same h'.0))
one_first Has list (k ∷ front) after [] after' x y e e' h h' lacks lacks' =
    let same : k ≡ y = cc in absurd (lacks' (subst Has same h.0))
one_first Has [] (k ∷ front) after (k' ∷ front') after' x y e e' h h' lacks lacks' = cc
one_first Has (z ∷ list) (k ∷ front) after (k' ∷ front') after' x y e e' h h' lacks lacks' =
    let rest : list ≡ front ++ x ∷ after = cc in
    let rest' : list ≡ front' ++ y ∷ after' = cc in
    one_first Has list front after front' after' x y rest rest' h.1 h'.1 lacks lacks'

pub same_refusal : (bytes : List ℕ) (broken other : Broken) → IsGameBroken bytes broken → IsGameBroken bytes other → broken ≡ other
same_refusal bytes broken other a b =
    let f = a.1 in
    let g = b.1 in
    a.2 ∙ ap game_bad (one_first (IsRightIn bytes) game_order f.front f.after g.front g.after a.0 b.0 f.split g.split f.before g.before f.lacks g.lacks) ∙ sym b.2
