-- How many parts an item takes, whatever its numbers name.
use Rattle.std.specs.Prelude.{ℕ, suc, List, ◌∷◌}
use Rattle.wv_attr.specs.declared.mark.Mark.{Mark}
use Rattle.wv_attr.specs.declared.mark.Mark.TheVariants as marks

-- The parts begin with a value, with so many values, with an annotation, with a name and a value, or with so many of those,
-- and the others are those behind it.
mutual
  pub data ValueFront : List Mark → List Mark → Type 0 where
    constant : (tag value : ℕ) (rest : List Mark) → ValueFront (marks.Constant tag value ∷ rest) rest
    enumerator : (descriptor name : ℕ) (rest : List Mark) → ValueFront (marks.Enum descriptor name ∷ rest) rest
    class : (descriptor : ℕ) (rest : List Mark) → ValueFront (marks.Class descriptor ∷ rest) rest
    nested : (ms rest : List Mark) → AnnotationFront ms rest → ValueFront (marks.Nested ∷ ms) rest
    array : (count : ℕ) (ms rest : List Mark) → ValuesFront count ms rest → ValueFront (marks.Array count ∷ ms) rest

  pub data ValuesFront : ℕ → List Mark → List Mark → Type 0 where
    no_values : (rest : List Mark) → ValuesFront 0 rest rest
    one_value : (count : ℕ) (ms next rest : List Mark) → ValueFront ms next → ValuesFront count next rest → ValuesFront (suc count) ms rest

  pub data AnnotationFront : List Mark → List Mark → Type 0 where
    annotation : (type count : ℕ) (ms rest : List Mark) → PairsFront count ms rest → AnnotationFront (marks.Annotation type count ∷ ms) rest

  pub data PairFront : List Mark → List Mark → Type 0 where
    pair : (name : ℕ) (ms rest : List Mark) → ValueFront ms rest → PairFront (marks.Name name ∷ ms) rest

  pub data PairsFront : ℕ → List Mark → List Mark → Type 0 where
    no_pairs : (rest : List Mark) → PairsFront 0 rest rest
    one_pair : (count : ℕ) (ms next rest : List Mark) → PairFront ms next → PairsFront count next rest → PairsFront (suc count) ms rest

pub data AnnotationsFront : ℕ → List Mark → List Mark → Type 0 where
  no_annotations : (rest : List Mark) → AnnotationsFront 0 rest rest
  one_annotation : (count : ℕ) (ms next rest : List Mark) → AnnotationFront ms next → AnnotationsFront count next rest → AnnotationsFront (suc count) ms rest

pub data ListsFront : ℕ → List Mark → List Mark → Type 0 where
  no_lists : (rest : List Mark) → ListsFront 0 rest rest
  one_list : (size count : ℕ) (ms next rest : List Mark) → AnnotationsFront size ms next → ListsFront count next rest → ListsFront (suc count) (marks.List size ∷ ms) rest
