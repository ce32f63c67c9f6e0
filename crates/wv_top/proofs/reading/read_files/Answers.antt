use Rattle.std.proofs.Common.{◌≡◌, ◌<◌, List, ℕ, String, Global, length, get_or, map, string_bytes, refl, sym, ap, ◌∙◌, arith}
use Rattle.std.proofs.lemmas.List.{get_or-map, length-map}
use Rattle.wv_base.specs.Folder.{File}
use Rattle.wv_front.specs.Opening.{most_files}
use Rattle.wv_model.specs.FolderRead.{most_read}
use Rattle.wv_top.proofs.Paths.{next-after_all, paths-more}
use Rattle.wv_top.proofs.ReadFolder.{next_told, none_read, one_more_read, read_all}
use Rattle.wv_top.proofs.reading.read_files.Goals as goal

-- the bytes of a word of a list stand at its place among those of all
word_at : (words : List (String Global)) (i : ℕ) (word : String Global) (text : List ℕ) → i < length words → word ≡ get_or words i word → text ≡ string_bytes word
    → text ≡ get_or (map string_bytes words) i text
word_at words i word text lt here spelled =
    spelled ∙ ap string_bytes here ∙ sym (get_or-map string_bytes words i word text lt)

pub push-requires : goal.push-requires
push-requires g c =
    next-after_all (map string_bytes c.args.paths.now) c.loop-path.folder c.loop-path.path-index c.in_ok-from_str.field-0 c.requires c.loop-path.invariant.1
    (omega (arith, length-map c.args.paths.now string_bytes))
    (word_at c.args.paths.now c.loop-path.path-index c.path-item.result c.in_ok-from_str.field-0 c.loop-path-test.true c.path-item.is (c.in_ok-from_str.ensures ∙ c.as_str-in-loop-path.ensures.value))

pub loop-path-init : goal.loop-path-init
unfolding most_files most_read
loop-path-init g c =
    (refl, ap (map (λ (file : File). file.0)) c.new-folder.ensures, refl, refl, none_read _ _ _ _ _ refl refl refl c.new-folder.ensures)

pub loop-path-preserved : goal.loop-path-preserved
loop-path-preserved g c =
    let paths = map string_bytes c.args.paths.now in
    let short : c.loop-path.path-index < length paths = omega (arith, length-map c.args.paths.now string_bytes) in
    let here = word_at c.args.paths.now c.loop-path.path-index c.path-item.result c.in_ok-from_str.field-0 c.loop-path-test.true c.path-item.is (c.in_ok-from_str.ensures ∙ c.as_str-in-loop-path.ensures.value) in
    let more = paths-more paths c.loop-path.folder c.loop-path.path-index c.in_ok-from_str.field-0 c.from_vec.result c.loop-path.invariant.1 short here in
    let next =
    next_told (g.T.Tree.told c.args.tree.now) (g.T.Tree.told c.loop-path.tree) (g.T.Tree.name c.args.tree.now) (g.T.Tree.name c.loop-path.tree) c.in_ok-from_str.field-0 c.as_str.result.now c.from_vec.result c.in_ok-bytes.bytes.items c.loop-path.allowance c.read.new.self
    c.loop-path.invariant.2 c.loop-path.invariant.3 (c.as_str.ensures.value ∙ sym (c.in_ok-from_str.ensures ∙ c.as_str-in-loop-path.ensures.value)) (sym c.from_vec.ensures) c.in_ok-bytes.ensures.next in
    let kept =
    one_more_read (g.T.Tree.told c.args.tree.now) (g.T.Tree.name c.args.tree.now) paths c.loop-path.path-index c.loop-path.folder c.loop-path.allowance c.read.new.self c.in_ok-from_str.field-0 c.from_vec.result c.requires short here c.loop-path.invariant.4 next in (
      c.in_ok-bytes.ensures.cause ∙ c.loop-path.invariant.0,
      rw c.in_ok-push.ensures.ok more,
      c.in_ok-bytes.ensures.told ∙ c.loop-path.invariant.2,
      c.in_ok-bytes.ensures.name ∙ c.loop-path.invariant.3,
      rw c.in_ok-push.ensures.ok kept,
    )

pub returns-clause-read : goal.returns-clause-read
returns-clause-read g c =
    let paths = map string_bytes c.args.paths.now in
    let long : length paths ≡ c.loop-path.path-index = omega (arith, length-map c.args.paths.now string_bytes) in
    read_all (g.T.Tree.told c.args.tree.now) (g.T.Tree.name c.args.tree.now) paths c.loop-path.path-index (record { folder = c.loop-path.folder; cut = c.loop-path.allowance.cut }) c.loop-path.allowance long refl c.loop-path.invariant.4
