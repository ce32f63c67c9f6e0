-- The paths of a listing, as the files so far have them.
use Rattle.std.proofs.Common.{◌≡◌, ℕ, ◌+◌, ◌<◌, List, [], ◌∷◌, ◌++◌, length, get_or, take, map, AllPairs, sym, ap, subst, ◌∙◌, arith}
use Rattle.std.proofs.lemmas.List.{get_or_default, get_or-map, get_or-take, length-map, length-take, map_push, take_more}
use Rattle.wv_base.specs.Folder.{File, IsPathBefore, IsPathAfter}

-- the next path of an ascending list is greater than those of the files so far
pub next-after_all : (paths : List (List ℕ)) (files : List File) (i : ℕ) (path : List ℕ) → AllPairs IsPathBefore paths → map (λ (file : File). file.0) files ≡ take i paths
    → i < length paths → path ≡ get_or paths i path → IsPathAfter path files
next-after_all paths files i path ascending so_far lt here k d within =
    let count : length files ≡ length (take i paths) = sym (length-map files (λ (file : File). file.0)) ∙ ap length so_far in
    let before : k < i = omega (arith, length-take i paths) in
    let this : (get_or files k d).0 ≡ get_or paths k d.0 =
    sym (get_or-map (λ (file : File). file.0) files k d d.0 within) ∙ ap (λ (l : List (List ℕ)). get_or l k d.0) so_far ∙ get_or-take i paths k d.0 before in
    let next : get_or paths i d.0 ≡ path = get_or_default paths i d.0 path lt ∙ sym here in
    subst (λ (p : List ℕ). IsPathBefore p path) (sym this) (subst (λ (p : List ℕ). IsPathBefore (get_or paths k d.0) p) next (ascending k i d.0 before lt))

-- one more file has one more path
pub paths-more : (paths : List (List ℕ)) (files : List File) (i : ℕ) (path bytes : List ℕ) → map (λ (file : File). file.0) files ≡ take i paths
    → i < length paths → path ≡ get_or paths i path → map (λ (file : File). file.0) (files ++ (path, bytes) ∷ []) ≡ take (i + 1) paths
paths-more paths files i path bytes so_far lt here =
    map_push (λ (file : File). file.0) files (path, bytes) ∙ ap (λ (l : List (List ℕ)). l ++ path ∷ []) so_far
    ∙ ap (λ (p : List ℕ). take i paths ++ p ∷ []) here ∙ sym (take_more paths i path lt)
