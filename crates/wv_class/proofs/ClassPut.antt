-- The constants of a class are put into a pool: of its head, its fields, its methods and its annotations.
use Rattle.std.proofs.Common.{◌≡◌, List, ◌++◌, Result, Ok, Err, refl, subst}
use Rattle.std.specs.Prelude.{IsErrAnd}
use Rattle.wv_base.specs.declared.class_file.PoolEntry.{PoolEntry}
use Rattle.wv_base.specs.declared.class_file.Member.{Member}
use Rattle.wv_base.specs.declared.class_file.ClassFile.{ClassFile}
use Rattle.wv_base.specs.declared.constant.Const.{Const}
use Rattle.wv_base.specs.declared.note.Note.{Note}
use Rattle.wv_pool.specs.declared.add.PoolFault.{PoolFault}
use Rattle.wv_pool.specs.Adding.{Grows}
use Rattle.wv_attr.proofs.PoolGrowth.{grows_then}
use Rattle.wv_class.specs.Enterable.{PutsAll}
use Rattle.wv_class.specs.Needs.{parts_of, annotations_need, members_need, head_constants, class_needs}
use Rattle.wv_class.proofs.Growth.{puts_then, failed_more, puts_failed}

module _ (class : ClassFile) (head : List Const) (fields methods : List Member) (notes : List Note) (head_is : head ≡ head_constants class) (fields_are : fields ≡ class.fields) (methods_are : methods ≡ class.methods) (notes_are : notes ≡ class.notes) where
  needs_are : annotations_need notes ++ (members_need methods ++ (members_need fields ++ parts_of head)) ≡ class_needs class
  needs_are = rw (head_is, fields_are, methods_are, notes_are) refl

  module _ (a b : List PoolEntry) (e : PoolFault) (r : Result (Unit {0}) PoolFault) (given : IsErrAnd r (λ x. x ≡ e)) where
    pub methods_failed : PutsAll a b (members_need methods ++ (members_need fields ++ parts_of head)) (Err e) → PutsAll a b (class_needs class) r
    methods_failed h = subst (λ (cs : List Const). PutsAll a b cs r) needs_are (puts_failed a b (members_need methods ++ (members_need fields ++ parts_of head)) (annotations_need notes) e r given h)

    pub fields_failed : PutsAll a b (members_need fields ++ parts_of head) (Err e) → PutsAll a b (class_needs class) r
    fields_failed h = methods_failed (failed_more a b (members_need fields ++ parts_of head) (members_need methods) e h)

    pub head_failed : PutsAll a b (parts_of head) (Err e) → PutsAll a b (class_needs class) r
    head_failed h = fields_failed (failed_more a b (parts_of head) (members_need fields) e h)

  module _ (a p q s new : List PoolEntry) (head_put : Grows a (parts_of head) p) (fields_put : Grows p (members_need fields) q) where
    pub two_put : Grows a (members_need fields ++ parts_of head) q
    two_put = grows_then a p q (parts_of head) (members_need fields) head_put fields_put

    pub all_put : (r : Result (Unit {0}) PoolFault) → Grows q (members_need methods) s → PutsAll s new (annotations_need notes) r → PutsAll a new (class_needs class) r
    all_put r methods_put h =
        subst (λ (cs : List Const). PutsAll a new cs r) needs_are
        (puts_then a s new (members_need methods ++ (members_need fields ++ parts_of head)) (annotations_need notes) r (grows_then a q s (members_need fields ++ parts_of head) (members_need methods) two_put methods_put) h)
