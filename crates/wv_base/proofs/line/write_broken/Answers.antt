use Rattle.wv_base.specs.Line.{refusal_text}
use Rattle.wv_base.proofs.Buffer.{ends_line}
use Rattle.wv_base.proofs.line.write_broken.Goals as goal

pub returns-clause-line : goal.returns-clause-line
returns-clause-line c =
    ends_line c.put_refusal-len.new.out c.put_refusal-len.result c.kept_of-kept.result (refusal_text c.args.broken.now) c.put_refusal-len.array_long
    c.kept_of-kept.ensures.within c.kept_of-kept.ensures.front c.put_refusal-len.ensures.text
    (c.kept_of-kept.ensures.kept (refusal_text c.args.broken.now) c.put_refusal-len.ensures.text)
