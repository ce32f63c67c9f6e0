use Rattle.wv_class.proofs.Values.{fits_int, fits_float, fits_long, fits_double, fits_string}
use Rattle.wv_class.proofs.content_break.fits_field.Goals as goal

pub returns-in-Integer : goal.returns-in-Integer
returns-in-Integer c = rw c.in-Integer.is (fits_int c.has_int.result c.args.descriptor.now c.in-Integer.field-0 c.has_int.ensures)

pub returns-in-Float : goal.returns-in-Float
returns-in-Float c = rw c.in-Float.is (fits_float c.is_ascii.result c.args.descriptor.now c.in-Float.field-0 c.is_ascii.ensures)

pub returns-in-Long : goal.returns-in-Long
returns-in-Long c = rw c.in-Long.is (fits_long c.is_ascii-in-Long.result c.args.descriptor.now c.in-Long.field-0 c.is_ascii-in-Long.ensures)

pub returns-in-Double : goal.returns-in-Double
returns-in-Double c = rw c.in-Double.is (fits_double c.is_ascii-in-Double.result c.args.descriptor.now c.in-Double.field-0 c.is_ascii-in-Double.ensures)

pub returns-in-String : goal.returns-in-String
returns-in-String c = rw c.in-String.is (fits_string c.is_ascii-in-String.result c.args.descriptor.now c.in-String.field-0 c.is_ascii-in-String.ensures)
