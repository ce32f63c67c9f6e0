-- Paths in the order of their bytes.
use Rattle.std.proofs.Common.{◌≡◌, ℕ, ◌<◌, List, [], ◌∷◌, map, length, Vec, String, Global, string_bytes, IsSorted, arith, subst, sym}
use Rattle.std.specs.Cmp.Lexicographic.{texts_ties}
use Rattle.std.specs.List.Retain.{DiffersFromLast, IsFiltered}
use Rattle.std.specs.List.Sorted.{IsStrictlySortedBy}
use Rattle.std.specs.String.{string_cmp, string_cmp_total, string_eq}
use Rattle.std.proofs.lemmas.List.{get_or-map, length-map}
use Rattle.std.proofs.lemmas.List.Elements.{All-map, All-from_recursion}
use Rattle.std.proofs.lemmas.List.Filters.{dedup_is}
use Rattle.std.proofs.lemmas.List.Kept.{AllPairs-cons, IsStrictlySortedBy-dedup}
use Rattle.std.proofs.lemmas.Map.Keys.{sorted_head, sorted_tail}
use Rattle.wv_base.specs.Folder.{File, IsPathBefore, IsInOrder}
use Rattle.wv_tree.specs.Tree.{IsAscending, path_bytes, paths_of}

-- the paths of files in order ascend
IsAscending-paths_of : (files : List File) → IsInOrder files → IsAscending (paths_of files)
IsAscending-paths_of files order i j d before in_range =
    let none : File = ([], []) in
    let short : j < length files = omega (arith, in_range, length-map files (λ (f : File). f.0)) in
    rw (get_or-map (λ (f : File). f.0) files i none d (omega arith), get_or-map (λ (f : File). f.0) files j none d short) (order i j none before short)

-- so do paths that are those of files in order
pub IsAscending-same : (files : List File) (paths : List (List ℕ)) → IsInOrder files → paths ≡ paths_of files → IsAscending paths
IsAscending-same files paths order same = subst IsAscending (sym same) (IsAscending-paths_of files order)

-- strictly sorted texts ascend by their bytes
IsAscending-sorted : (paths : List (String Global)) → IsStrictlySortedBy string_cmp paths → IsAscending (map string_bytes paths)
IsAscending-sorted [] sorted = λ i j d before in_range. absurd (omega arith)
IsAscending-sorted (path ∷ paths) sorted =
    let later = All-map (IsPathBefore (string_bytes path)) string_bytes paths (All-from_recursion (λ (other : String Global). IsPathBefore (string_bytes path) (string_bytes other)) paths (sorted_head string_cmp path paths sorted)) in
    AllPairs-cons IsPathBefore (string_bytes path) (map string_bytes paths) later (IsAscending-sorted paths (sorted_tail string_cmp path paths sorted))

-- sorted texts without those that repeat the one before ascend
pub IsAscending-dedup : (sorted paths : Vec (String Global) Global) → IsSorted string_cmp sorted.items → IsFiltered (DiffersFromLast string_eq) [] sorted.items paths.items → IsAscending (path_bytes paths)
IsAscending-dedup sorted paths in_order kept =
    IsAscending-sorted paths.items (subst (IsStrictlySortedBy string_cmp) (sym (dedup_is string_eq sorted.items paths.items kept)) (IsStrictlySortedBy-dedup string_cmp_total (λ x y. texts_ties (string_bytes x) (string_bytes y)) sorted.items in_order))
