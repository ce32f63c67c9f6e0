use Rattle.std.proofs.Common.{Ok, Err, length, ◌∙◌}
use Rattle.wv_front.specs.declared.fault.WeaveFault.TheVariants as faults
use Rattle.wv_top.specs.Words.{Command, command_of, texts}
use Rattle.wv_top.specs.Lines.{usage_line}
use Rattle.wv_top.proofs.Outcome.{usage_printed, usage_failed, weaves_told, refused_rules, failed_rules, refused_printed, refusal_failed, done_rules, done_puts, failed_puts, starved_puts, done_printed, done_whole, summary_failed, puts_failed, all_added}
use Rattle.wv_top.proofs.top.loader.Goals as goal
use Rattle.wv_top.proofs.top.loader.Goals.{in-Ok-write_refusal, in-Err-write_refusal}

-- ---- Words that are no command

pub returns-in-Ok-clause-printed : goal.returns-in-Ok-clause-printed
unfolding usage_line
returns-in-Ok-clause-printed g c =
    usage_printed (command_of (texts c.args.words.now)) (g.T.Tree.told c.args.tree.now) (g.S.Sink.told c.args.sink.now) (g.S.Sink.told c.write.new.self) c.in_default.ensures c.in-Ok.ensures.ok

pub returns-in-Err-clause-printed : goal.returns-in-Err-clause-printed
unfolding usage_line
returns-in-Err-clause-printed g c =
    usage_failed (command_of (texts c.args.words.now)) (g.T.Tree.told c.args.tree.now) (g.S.Sink.told c.args.sink.now) (g.S.Sink.told c.write.new.self) c.in_default.ensures c.in-Err.ensures.err

-- ---- A broken rule

pub returns-in-Err-Broken-clause-rules : goal.returns-in-Err-Broken-clause-rules
returns-in-Err-Broken-clause-rules g c =
    let told = g.T.Tree.told c.args.tree.now in
    let rules = rw c.in-Err-Broken.field-0-is at c.in-Err-Broken.ensures in
    let first = weaves_told told c.in-Some.command.folder.now c.in-Some.command.side c.in-Ok-read_folder.reading (Err (faults.Broken c.in-Err-Broken.broken)) c.in-Ok-read_folder.ensures.read rules in
    let asked = command_of (texts c.args.words.now) in
    let command : Command = record { folder = c.in-Some.command.folder.now; out = c.in-Some.command.out.now; side = c.in-Some.command.side } in
    elim c.match-write_refusal.branch [
      | in-Ok-write_refusal w ↦ rw w.result-is (refused_rules asked command told c.in-Some.ensures c.in-Err-Broken.broken first)
      | in-Err-write_refusal w ↦ rw w.result-is (failed_rules asked command told c.in-Some.ensures)
    ]

pub returns-in-Err-Broken-clause-printed : goal.returns-in-Err-Broken-clause-printed
returns-in-Err-Broken-clause-printed g c =
    let told = g.T.Tree.told c.args.tree.now in
    let rules = rw c.in-Err-Broken.field-0-is at c.in-Err-Broken.ensures in
    let first = weaves_told told c.in-Some.command.folder.now c.in-Some.command.side c.in-Ok-read_folder.reading (Err (faults.Broken c.in-Err-Broken.broken)) c.in-Ok-read_folder.ensures.read rules in
    let asked = command_of (texts c.args.words.now) in
    let command : Command = record { folder = c.in-Some.command.folder.now; out = c.in-Some.command.out.now; side = c.in-Some.command.side } in
    let before = g.S.Sink.told c.args.sink.now in
    let now = g.S.Sink.told c.write_refusal.new.sink in
    elim c.match-write_refusal.branch [
      | in-Ok-write_refusal w ↦ rw w.result-is (refused_printed asked command told c.in-Some.ensures c.in-Err-Broken.broken before now first (rw c.in-Err-Broken.field-0-is at w.in-Ok-write_refusal.ensures.ok))
      | in-Err-write_refusal w ↦ rw w.result-is (refusal_failed asked command told c.in-Some.ensures c.in-Err-Broken.broken before now first (rw c.in-Err-Broken.field-0-is at w.in-Err-write_refusal.ensures.err))
    ]

pub returns-in-Err-Broken-clause-done : goal.returns-in-Err-Broken-clause-done
returns-in-Err-Broken-clause-done g c =
    elim c.match-write_refusal.branch [ in-Ok-write_refusal w ↦ rw w.result-is tt | in-Err-write_refusal w ↦ rw w.result-is tt ]

-- ---- A file that isn't put

pub returns-in-Err-Failed-put_files-clause-puts : goal.returns-in-Err-Failed-put_files-clause-puts
returns-in-Err-Failed-put_files-clause-puts g c =
    let told = g.T.Tree.told c.args.tree.now in
    let woven = weaves_told told c.in-Some.command.folder.now c.in-Some.command.side c.in-Ok-read_folder.reading (Ok c.in-Ok-weave_reading.woven) c.in-Ok-read_folder.ensures.read c.in-Ok-weave_reading.ensures in
    let put = c.in-Err-Failed-put_files.ensures.err in
    failed_puts (command_of (texts c.args.words.now)) (record { folder = c.in-Some.command.folder.now; out = c.in-Some.command.out.now; side = c.in-Some.command.side }) told c.in-Some.ensures c.in-Ok-weave_reading.woven woven (g.O.Outlet.told c.args.outlet.now) (g.O.Outlet.told c.put_files.new.outlet) put.0 c.in-Err-Failed-put_files.ensures.order put.1

pub returns-in-Err-Failed-put_files-clause-printed : goal.returns-in-Err-Failed-put_files-clause-printed
returns-in-Err-Failed-put_files-clause-printed g c =
    let told = g.T.Tree.told c.args.tree.now in
    let woven = weaves_told told c.in-Some.command.folder.now c.in-Some.command.side c.in-Ok-read_folder.reading (Ok c.in-Ok-weave_reading.woven) c.in-Ok-read_folder.ensures.read c.in-Ok-weave_reading.ensures in
    puts_failed (command_of (texts c.args.words.now)) (record { folder = c.in-Some.command.folder.now; out = c.in-Some.command.out.now; side = c.in-Some.command.side }) told c.in-Some.ensures c.in-Ok-weave_reading.woven woven (g.S.Sink.told c.args.sink.now)

pub returns-in-Err-Memory-put_files-clause-puts : goal.returns-in-Err-Memory-put_files-clause-puts
returns-in-Err-Memory-put_files-clause-puts g c =
    let told = g.T.Tree.told c.args.tree.now in
    let woven = weaves_told told c.in-Some.command.folder.now c.in-Some.command.side c.in-Ok-read_folder.reading (Ok c.in-Ok-weave_reading.woven) c.in-Ok-read_folder.ensures.read c.in-Ok-weave_reading.ensures in
    let put = c.in-Err-Memory-put_files.ensures.err in
    starved_puts (command_of (texts c.args.words.now)) (record { folder = c.in-Some.command.folder.now; out = c.in-Some.command.out.now; side = c.in-Some.command.side }) told c.in-Some.ensures c.in-Ok-weave_reading.woven woven (g.O.Outlet.told c.args.outlet.now) (g.O.Outlet.told c.put_files.new.outlet) put.0 c.in-Err-Memory-put_files.ensures.order put.1

-- ---- All files put

pub returns-in-Ok-write-clause-rules : goal.returns-in-Ok-write-clause-rules
returns-in-Ok-write-clause-rules g c =
    let told = g.T.Tree.told c.args.tree.now in
    let woven = weaves_told told c.in-Some.command.folder.now c.in-Some.command.side c.in-Ok-read_folder.reading (Ok c.in-Ok-weave_reading.woven) c.in-Ok-read_folder.ensures.read c.in-Ok-weave_reading.ensures in
    done_rules (command_of (texts c.args.words.now)) (record { folder = c.in-Some.command.folder.now; out = c.in-Some.command.out.now; side = c.in-Some.command.side }) told c.in-Some.ensures c.in-Ok-weave_reading.woven woven

pub returns-in-Ok-write-clause-puts : goal.returns-in-Ok-write-clause-puts
returns-in-Ok-write-clause-puts g c =
    let told = g.T.Tree.told c.args.tree.now in
    let woven = weaves_told told c.in-Some.command.folder.now c.in-Some.command.side c.in-Ok-read_folder.reading (Ok c.in-Ok-weave_reading.woven) c.in-Ok-read_folder.ensures.read c.in-Ok-weave_reading.ensures in
    done_puts (command_of (texts c.args.words.now)) (record { folder = c.in-Some.command.folder.now; out = c.in-Some.command.out.now; side = c.in-Some.command.side }) told c.in-Some.ensures c.in-Ok-weave_reading.woven woven (g.O.Outlet.told c.args.outlet.now) (g.O.Outlet.told c.put_files.new.outlet) c.in-Ok-put_files.ensures.order c.in-Ok-put_files.ensures.ok

pub returns-in-Ok-write-clause-printed : goal.returns-in-Ok-write-clause-printed
returns-in-Ok-write-clause-printed g c =
    let told = g.T.Tree.told c.args.tree.now in
    let woven = weaves_told told c.in-Some.command.folder.now c.in-Some.command.side c.in-Ok-read_folder.reading (Ok c.in-Ok-weave_reading.woven) c.in-Ok-read_folder.ensures.read c.in-Ok-weave_reading.ensures in
    let line = c.as_bytes.ensures.value ∙ c.in-Ok-summary_line.ensures.line in
    done_printed (command_of (texts c.args.words.now)) (record { folder = c.in-Some.command.folder.now; out = c.in-Some.command.out.now; side = c.in-Some.command.side }) told c.in-Some.ensures c.in-Ok-weave_reading.woven woven (g.S.Sink.told c.args.sink.now) (g.S.Sink.told c.write-2.new.self) c.as_bytes.result.now line c.in-Ok-write.ensures.ok

pub returns-in-Ok-write-clause-done : goal.returns-in-Ok-write-clause-done
returns-in-Ok-write-clause-done g c =
    let told = g.T.Tree.told c.args.tree.now in
    let woven = weaves_told told c.in-Some.command.folder.now c.in-Some.command.side c.in-Ok-read_folder.reading (Ok c.in-Ok-weave_reading.woven) c.in-Ok-read_folder.ensures.read c.in-Ok-weave_reading.ensures in
    let line = c.as_bytes.ensures.value ∙ c.in-Ok-summary_line.ensures.line in
    done_whole (command_of (texts c.args.words.now)) (record { folder = c.in-Some.command.folder.now; out = c.in-Some.command.out.now; side = c.in-Some.command.side }) told c.in-Some.ensures c.in-Ok-weave_reading.woven woven (g.O.Outlet.told c.args.outlet.now) (g.O.Outlet.told c.put_files.new.outlet) (g.S.Sink.told c.args.sink.now) (g.S.Sink.told c.write-2.new.self) c.as_bytes.result.now c.in-Ok-put_files.ensures.order c.in-Ok-put_files.ensures.ok line c.in-Ok-write.ensures.ok

pub returns-clause-puts : goal.returns-clause-puts
returns-clause-puts g c =
    let told = g.T.Tree.told c.args.tree.now in
    let woven = weaves_told told c.in-Some.command.folder.now c.in-Some.command.side c.in-Ok-read_folder.reading (Ok c.in-Ok-weave_reading.woven) c.in-Ok-read_folder.ensures.read c.in-Ok-weave_reading.ensures in
    failed_puts (command_of (texts c.args.words.now)) (record { folder = c.in-Some.command.folder.now; out = c.in-Some.command.out.now; side = c.in-Some.command.side }) told c.in-Some.ensures c.in-Ok-weave_reading.woven woven (g.O.Outlet.told c.args.outlet.now) (g.O.Outlet.told c.put_files.new.outlet) (length c.in-Ok-weave_reading.woven.files) c.in-Ok-put_files.ensures.order
    (all_added c.in-Some.command.out.now c.in-Ok-weave_reading.woven.files (g.O.Outlet.told c.args.outlet.now) (g.O.Outlet.told c.put_files.new.outlet) c.in-Ok-put_files.ensures.ok)

pub returns-clause-printed : goal.returns-clause-printed
returns-clause-printed g c =
    let told = g.T.Tree.told c.args.tree.now in
    let woven = weaves_told told c.in-Some.command.folder.now c.in-Some.command.side c.in-Ok-read_folder.reading (Ok c.in-Ok-weave_reading.woven) c.in-Ok-read_folder.ensures.read c.in-Ok-weave_reading.ensures in
    let line = c.as_bytes.ensures.value ∙ c.in-Ok-summary_line.ensures.line in
    summary_failed (command_of (texts c.args.words.now)) (record { folder = c.in-Some.command.folder.now; out = c.in-Some.command.out.now; side = c.in-Some.command.side }) told c.in-Some.ensures c.in-Ok-weave_reading.woven woven (g.S.Sink.told c.args.sink.now) (g.S.Sink.told c.write-2.new.self) c.as_bytes.result.now line c.in-Err-write.ensures.err
