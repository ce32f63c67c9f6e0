-- Paths of class files, taken apart.
use Rattle.std.proofs.Common.{◌≡◌, ◌≢◌, inl, inr, ℕ, ◌<◌, Bool, true, false, IsTrue, List, [], ◌∷◌, ◌++◌, length, get_or, Option, Some, None, MatchOption, codes, refl, ap, sym, ◌∙◌, subst, append_assoc, arith, true≢false}
use Rattle.std.specs.Borrow.{Bor}
use Rattle.std.specs.Str.Pattern.{FindsTextSuffix, StripsSuffix}
use Rattle.std.proofs.lemmas.List.{append_cancel_left, append_cancel_right}
use Rattle.wv_base.specs.declared.side.Side.{Side}
use Rattle.wv_base.specs.Folder.{File}
use Rattle.wv_model.specs.FolderRead.{is_read}
use Rattle.wv_resolve.specs.Discovery.{LiesIn}
use Rattle.wv_resolve.specs.LoadedFolder.{IsLoadedFolder}
use Rattle.wv_resolve.proofs.Paths.{lies-one, loose, lies}
use Rattle.wv_classes.specs.ClassPath.{LiesBehind, IsClassPath}

-- ---- What follows a folder

same-first : (x y : ℕ) (xs ys : List ℕ) → x ∷ xs ≡ y ∷ ys → x ≡ y
same-first x y xs ys e = cc

apart : (x : ℕ) → x ≡ 103 → x ≡ 109 → ⊥
apart x e f = absurd (omega arith)

game-not_mods : (a b : List ℕ) → codes "game/" ++ a ≡ codes "mods/" ++ b → ⊥
game-not_mods a b e = apart 103 refl (same-first 103 109 (codes "ame/" ++ a) (codes "ods/" ++ b) e)

-- in the order in which a path is taken apart
grouped : (name rest : List ℕ) → codes "mods/" ++ name ++ codes "/" ++ rest ≡ codes "mods/" ++ (name ++ 47 ∷ rest)
grouped name rest = ap (λ inside. codes "mods/" ++ inside) (append_assoc name (47 ∷ []) rest)

module _ (folder : List File) (side : Side) (path : List ℕ) where
  in-mod : (name rest : List ℕ) → IsLoadedFolder folder side name → path ≡ codes "mods/" ++ name ++ codes "/" ++ rest → LiesIn name path
  in-mod name rest loaded is = record { further = rest; whole = is; one_part = loaded.0.4.one_part }

  pub behind-game : (rest : List ℕ) → path ≡ codes "game/" ++ rest → LiesBehind folder side path rest
  behind-game rest is = (codes "game/", inl refl, is)

  pub behind-mod : (name rest : List ℕ) (lies : LiesIn name path) → rest ≡ lies.further → IsLoadedFolder folder side name → LiesBehind folder side path rest
  behind-mod name rest lies same loaded =
      (codes "mods/" ++ name ++ codes "/", inr (name, loaded, refl), lies.whole ∙ ap (λ further. codes "mods/" ++ name ++ codes "/" ++ further) (sym same))

  of-game : (root rest : List ℕ) → root ≡ codes "game/" → path ≡ root ++ rest → path ≡ codes "game/" ++ rest
  of-game root rest same is = is ∙ ap (λ front. front ++ rest) same

  of-mod : (root name rest : List ℕ) → root ≡ codes "mods/" ++ name ++ codes "/" → path ≡ root ++ rest → path ≡ codes "mods/" ++ name ++ codes "/" ++ rest
  of-mod root name rest same is = is ∙ ap (λ front. front ++ rest) same

  -- a path that lies in no folder of a mod, and not in `game/`
  pub none-behind : ((rest : List ℕ) → path ≢ codes "game/" ++ rest) → ((name : List ℕ) → LiesIn name path → ⊥) → (rest : List ℕ) → LiesBehind folder side path rest → ⊥
  none-behind no_game no_mod rest (root, inl same, is) = no_game rest (of-game root rest same is)
  none-behind no_game no_mod rest (root, inr (name, loaded, same), is) = no_mod name (in-mod name rest loaded (of-mod root name rest same is))

  -- a path that lies in the folder of a mod that isn't loaded
  pub unloaded-behind : (name : List ℕ) → ((rest : List ℕ) → path ≢ codes "game/" ++ rest) → LiesIn name path → (IsLoadedFolder folder side name → ⊥) → (rest : List ℕ) → LiesBehind folder side path rest → ⊥
  unloaded-behind name no_game lies unloaded rest (root, inl same, is) = no_game rest (of-game root rest same is)
  unloaded-behind name no_game lies unloaded rest (root, inr (other, loaded, same), is) =
      unloaded (subst (IsLoadedFolder folder side) (lies-one other name path (in-mod other rest loaded (of-mod root other rest same is)) lies) loaded)

  -- one thing follows the folder
  pub one-behind : (rest rest' : List ℕ) → LiesBehind folder side path rest → LiesBehind folder side path rest' → rest ≡ rest'
  one-behind rest rest' (root, inl same, is) (root', inl same', is') =
      append_cancel_left (codes "game/") rest rest' (sym (of-game root rest same is) ∙ of-game root' rest' same' is')
  one-behind rest rest' (root, inl same, is) (root', inr (name, loaded, same'), is') =
      absurd (game-not_mods rest (name ++ 47 ∷ rest') (sym (of-game root rest same is) ∙ of-mod root' name rest' same' is' ∙ grouped name rest'))
  one-behind rest rest' (root, inr (name, loaded, same), is) (root', inl same', is') =
      absurd (game-not_mods rest' (name ++ 47 ∷ rest) (sym (of-game root' rest' same' is') ∙ of-mod root name rest same is ∙ grouped name rest))
  one-behind rest rest' (root, inr (name, loaded, same), is) (root', inr (name', loaded', same'), is') =
      let e = of-mod root name rest same is in
      let e' = of-mod root' name' rest' same' is' in
      let names : name ≡ name' = lies-one name name' path (in-mod name rest loaded e) (in-mod name' rest' loaded' e') in
      append_cancel_left (codes "mods/" ++ name ++ codes "/") rest rest'
      (sym e ∙ e' ∙ ap (λ n. codes "mods/" ++ n ++ codes "/" ++ rest') (sym names))

-- the parts of a path in the folder of a mod
pub mod-parts : (path inside : List ℕ) (r : Option (Bor (List ℕ) × Bor (List ℕ))) → path ≡ codes "mods/" ++ inside → MatchOption r ((i : ℕ) → i < length inside → get_or inside i 0 ≢ 47) (λ p. (inside ≡ p.0.now ++ 47 ∷ p.1.now) × ((i : ℕ) → i < length p.0.now → get_or p.0.now i 0 ≢ 47)) → MatchOption r ((name : List ℕ) → LiesIn name path → ⊥) (λ parts. (lies : LiesIn parts.0.now path) × (parts.1.now ≡ lies.further))
mod-parts path inside None is h = λ name. loose path inside name is h
mod-parts path inside (Some (name, rest)) is (split, free) = (
  record {
    further = rest.now;
    whole = is ∙ ap (λ i. codes "mods/" ++ i) split ∙ sym (grouped name.now rest.now);
    one_part = (lies path inside name.now rest.now is split free).one_part;
  },
  refl,
)

-- ---- The name of a class

pub stripped-end : (end text : List ℕ) (r : Option (Bor (List ℕ))) → MatchOption r (FindsTextSuffix end text None) (λ x. StripsSuffix (FindsTextSuffix end) text x.now) → MatchOption r ((front : List ℕ) → text ≢ front ++ end) (λ x. text ≡ x.now ++ end)
stripped-end end text None h = h
stripped-end end text (Some x) h = h.1.1 ∙ ap (λ front. front ++ end) (sym h.2)

module _ (folder : List File) (side : Side) (path : List ℕ) where
  pub one-name : (name other : List ℕ) → IsClassPath folder side path name → IsClassPath folder side path other → name ≡ other
  one-name name other g h = append_cancel_right name other (codes ".class") (one-behind folder side path (name ++ codes ".class") (other ++ codes ".class") g.lies h.lies)

  pub unread-none : is_read path ≡ false → (name : List ℕ) → IsClassPath folder side path name → ⊥
  unread-none not name h = true≢false (sym h.read ∙ not)

  pub outside-none : ((rest : List ℕ) → LiesBehind folder side path rest → ⊥) → (name : List ℕ) → IsClassPath folder side path name → ⊥
  outside-none none name h = none (name ++ codes ".class") h.lies

  -- what the ending tells
  pub named : (rest : List ℕ) (r : Option (Bor (List ℕ))) → is_read path ≡ true → LiesBehind folder side path rest → MatchOption r ((front : List ℕ) → rest ≢ front ++ codes ".class") (λ x. rest ≡ x.now ++ codes ".class") → MatchOption r ((name : List ℕ) → IsClassPath folder side path name → ⊥) (λ name. IsClassPath folder side path name.now)
  named rest None read lies none = λ name h. none name (one-behind folder side path rest (name ++ codes ".class") lies h.lies)
  named rest (Some name) read lies same = record { lies = subst (LiesBehind folder side path) same lies; read = read }
