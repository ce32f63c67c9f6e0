use Rattle.wv_class.proofs.Exits.{fails}
use Rattle.wv_class.proofs.Heads.{magic_number, magic_small, magic_is, magic_stops, minor_stops, major_stops, head_takes}
use Rattle.wv_class.proofs.layout.head_at.Goals as goal

pub returns-in_err-_magic : goal.returns-in_err-_magic
returns-in_err-_magic c = fails c.args.bytes.now c.args.bytes.now (magic_stops magic_number magic_small magic_is c.args.bytes.now) c.from_residual.result c.in_err-_magic.field-0.0 c.from_residual.ensures.1 c.in_err-_magic.ensures

pub returns-in_err-minor : goal.returns-in_err-minor
returns-in_err-minor c =
    fails c.in_ok-_magic.rest.now c.args.bytes.now (λ left s. minor_stops magic_number magic_small magic_is c.args.bytes.now c.in_ok-_magic._magic c.in_ok-_magic.rest.now left c.in_ok-_magic.ensures s)
    c.from_residual-in_err-minor.result c.in_err-minor.field-0.0 c.from_residual-in_err-minor.ensures.1 c.in_err-minor.ensures

pub returns-in_err-major : goal.returns-in_err-major
returns-in_err-major c =
    fails c.in_ok-minor.rest.now c.args.bytes.now (λ left s. major_stops magic_number magic_small magic_is c.args.bytes.now c.in_ok-_magic._magic c.in_ok-_magic.rest.now c.in_ok-minor.minor c.in_ok-minor.rest.now left c.in_ok-_magic.ensures c.in_ok-minor.ensures s)
    c.from_residual-in_err-major.result c.in_err-major.field-0.0 c.from_residual-in_err-major.ensures.1 c.in_err-major.ensures

pub returns : goal.returns
returns c =
    head_takes magic_number magic_small magic_is c.args.bytes.now c.in_ok-_magic._magic c.in_ok-_magic.rest.now c.in_ok-minor.minor c.in_ok-minor.rest.now c.in_ok-major.major c.in_ok-major.rest.now c.in_ok-_magic.ensures c.in_ok-minor.ensures c.in_ok-major.ensures
