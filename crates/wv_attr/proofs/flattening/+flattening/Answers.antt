use Rattle.std.proofs.Common.{◌++◌, ◌∷◌, [], length, ap, sym, ◌∙◌}
use Rattle.std.specs.List.{flat_map}
use Rattle.wv_base.specs.declared.note.Annotation.{out-Annotation}
use Rattle.wv_base.specs.declared.note.NamedElement.{out-NamedElement}
use Rattle.wv_attr.specs.declared.piece.Piece.TheVariants as pieces
use Rattle.wv_attr.specs.Pieces.{value_pieces, annotation_pieces, pair_pieces}
use Rattle.wv_attr.proofs.Flattened.{constant_pieces, enum_pieces, class_pieces, nested_pieces, array_pieces, annotation_out, pair_out, put_behind, on_ok}
use Rattle.wv_attr.proofs.flattening.+flattening.Goals as goal

pub put_value-returns-in_ok-push-in-Constant : goal.put_value-returns-in_ok-push-in-Constant
put_value-returns-in_ok-push-in-Constant t c =
    let parts = constant_pieces c.in-Constant.tag c.in-Constant.value in
    cc (parts, c.in-Constant.is, c.in_ok-copy-in-Constant.ensures, c.in_ok-push-in-Constant.ensures.items)

pub put_value-returns-in_ok-push-in-Enum : goal.put_value-returns-in_ok-push-in-Enum
put_value-returns-in_ok-push-in-Enum t c =
    let parts = enum_pieces c.in-Enum.descriptor c.in-Enum.name in
    cc (parts, c.in-Enum.is, c.in_ok-copy-in-Enum.ensures, c.in_ok-copy-in-Enum-2.ensures, c.in_ok-push-in-Enum.ensures.items)

pub put_value-returns-in_ok-push-in-Class : goal.put_value-returns-in_ok-push-in-Class
put_value-returns-in_ok-push-in-Class t c =
    let parts = class_pieces c.in-Class.descriptor in
    cc (parts, c.in-Class.is, c.in_ok-copy-in-Class.ensures, c.in_ok-push-in-Class.ensures.items)

pub put_value-returns-in_ok-put_annotation-in-Annotation : goal.put_value-returns-in_ok-put_annotation-in-Annotation
put_value-returns-in_ok-put_annotation-in-Annotation t c =
    let all = put_behind c.put_annotation.new.out.items c.push-in-Annotation.new.self.items c.args.out.now.items (annotation_pieces c.in-Annotation.nested) pieces.Nested c.in_ok-put_annotation-in-Annotation.ensures c.in_ok-push-in-Annotation.ensures.items in
    all ∙ ap (λ ps. c.args.out.now.items ++ ps) (sym (ap value_pieces c.in-Annotation.is ∙ nested_pieces c.in-Annotation.nested))

pub put_value-returns-in_ok-put_values-in-Array : goal.put_value-returns-in_ok-put_values-in-Array
put_value-returns-in_ok-put_values-in-Array t c =
    let es = c.in-Array.values in
    let last = c.in_ok-put_values-in-Array.ensures ∙ ap (λ xs. c.push-in-Array.new.self.items ++ flat_map value_pieces xs) c.as_slice.ensures in
    let first = c.in_ok-push-in-Array.ensures.items ∙ ap (λ k. c.args.out.now.items ++ pieces.Array k ∷ []) c.len-count.ensures in
    let all = put_behind c.put_values.new.out.items c.push-in-Array.new.self.items c.args.out.now.items (flat_map value_pieces es) (pieces.Array (length es)) last first in
    all ∙ ap (λ ps. c.args.out.now.items ++ ps) (sym (ap value_pieces c.in-Array.is ∙ array_pieces es))

pub put_annotation-returns : goal.put_annotation-returns
put_annotation-returns t c =
    let a = out-Annotation c.args.annotation.now in
    on_ok c.put_pairs.result (λ last.
    let rest = last ∙ ap (λ xs. c.push.new.self.items ++ flat_map pair_pieces xs) c.as_slice.ensures in
    let first = c.in_ok-push.ensures.items ∙ ap (λ k. c.args.out.now.items ++ pieces.Annotation c.in_ok-class.class k ∷ []) c.len-count.ensures ∙ ap (λ x. c.args.out.now.items ++ pieces.Annotation x (length a.elements) ∷ []) c.in_ok-class.ensures in
    put_behind c.put_pairs.new.out.items c.push.new.self.items c.args.out.now.items (flat_map pair_pieces a.elements) (pieces.Annotation a.class (length a.elements)) rest first
    ∙ ap (λ ps. c.args.out.now.items ++ ps) (sym (annotation_out c.args.annotation.now)))
    c.put_pairs.ensures

pub put_pair-returns : goal.put_pair-returns
put_pair-returns t c =
    let p = out-NamedElement c.args.pair.now in
    on_ok c.put_value.result (λ last.
    let first = c.in_ok-push.ensures.items ∙ ap (λ x. c.args.out.now.items ++ pieces.Name x ∷ []) c.in_ok-copy.ensures in
    put_behind c.put_value.new.out.items c.push.new.self.items c.args.out.now.items (value_pieces p.value) (pieces.Name p.name) last first
    ∙ ap (λ ps. c.args.out.now.items ++ ps) (sym (pair_out c.args.pair.now)))
    c.put_value.ensures
