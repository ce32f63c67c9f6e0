-- What is known of the names of listed classes (our own).
use Rattle.std.specs.Prelude.{◌↔◌, ◌⊎◌, ℕ, Bool, IsTrue, List, Contains, flat_map}
use Rattle.std.specs.BTreeSet.{contains_by}
use Rattle.std.specs.Cmp.Lexicographic.{slice_cmp}
use Rattle.std.specs.Ordering.{nat_cmp}
use Rattle.wv_config.specs.declared.loaded.Configs.{Configs}
use Rattle.wv_front.specs.Listed.{all_configs, class_names}
use Rattle.wv_weave.specs.declared.listed.ListedNames.{ListedNames}

-- the classes that all configurations list
abbrev pub listed_names : Configs → List (List ℕ)
listed_names configs = flat_map (λ loaded. class_names loaded.config) (all_configs configs)

-- the set has this name
abbrev pub has : ListedNames → List ℕ → Bool
has listed name = contains_by (λ key. slice_cmp nat_cmp name key) listed.names

-- the set has these names, and no others
abbrev pub HasNames : List (List ℕ) → ListedNames → Type 0
HasNames names listed = (name : List ℕ) → IsTrue (has listed name) ↔ Contains names name

-- the set has these names besides those that it had
abbrev pub GrowsBy : (old new : ListedNames) → List (List ℕ) → Type 0
GrowsBy old new names = (name : List ℕ) → IsTrue (has new name) ↔ (IsTrue (has old name) ⊎ Contains names name)
