use Rattle.std.proofs.Common.{◌≡◌, Option, Some, None, option_map, List, [], ◌∷◌, refl, ap, ◌∙◌, lit<}
use Rattle.std.specs.List.{fold, last_or}
use Rattle.std.proofs.lemmas.Iterator.Adapters.{total_from_yields_List}
use Rattle.std.proofs.lemmas.Iterator.Splits.{YieldsList-from_str_split}
use Rattle.wv_model.specs.FolderRead.{parts}
use Rattle.wv_resolve.proofs.path.file_name.Goals as goal

last_or-fold : {A B : Type 0} (v : A → B) (o : Option A) (xs : List A) → option_map v (last_or o xs) ≡ fold (λ _ x. Some (v x)) (option_map v o) xs
last_or-fold v o [] = refl
last_or-fold v o (x ∷ xs) = last_or-fold v (Some x) xs

fold-last_or : {A : Type 0} (o : Option A) (xs : List A) → fold (λ _ x. Some x) o xs ≡ last_or o xs
fold-last_or o [] = refl
fold-last_or o (x ∷ xs) = fold-last_or (Some x) xs

pub returns : goal.returns
returns c =
    let road = YieldsList-from_str_split 47 c.args.path.now (lit< tt) c.split.ensures.text c.split.ensures.has_more c.split.ensures.pattern in
    let ran = c.last.ensures.ran in
    total_from_yields_List (λ _ x. Some x) None _
    (ran.0, (λ _. ran.1), ap (option_map (λ x. x.now)) ran.2 ∙ last_or-fold (λ x. x.now) None ran.0)
    road
    ∙ fold-last_or None (parts c.args.path.now)
