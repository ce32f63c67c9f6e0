-- Which classes some descriptors and constants name (JVM Specification 4.3 and 4.4.1).
use Rattle.std.specs.Prelude.{◌≡◌, List, [], ◌∷◌, codes}
use Rattle.wv_form.specs.NamedClasses.{descriptor_classes, constant_classes}

-- a method's descriptor, that of a class, that of an array, and none
abbrev pub AreDescriptorExamples : Type 0
AreDescriptorExamples =
    (descriptor_classes (codes "(ILa/B;[[Lc/D;J)Le;") ≡ codes "a/B" ∷ codes "c/D" ∷ codes "e" ∷ [])
    × (descriptor_classes (codes "La/Lb;") ≡ codes "a/Lb" ∷ [])
    × (descriptor_classes (codes "[[La/B;") ≡ codes "a/B" ∷ [])
    × (descriptor_classes (codes "[I") ≡ [])

-- the name of a class, and the descriptors of arrays
abbrev pub AreConstantExamples : Type 0
AreConstantExamples =
    (constant_classes (codes "a/B") ≡ codes "a/B" ∷ [])
    × (constant_classes (codes "La/Lb;") ≡ codes "La/Lb;" ∷ [])
    × (constant_classes (codes "[[La/B;") ≡ codes "a/B" ∷ [])
    × (constant_classes (codes "[I") ≡ [])
