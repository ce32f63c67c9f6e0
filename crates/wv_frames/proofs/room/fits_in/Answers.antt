use Rattle.wv_frames.proofs.Sizes.{same_test}
use Rattle.wv_frames.proofs.room.fits_in.Goals as goal

pub returns : goal.returns
returns c = same_test c.args.to_come c.args.room c.fits.result (c.fits.ensures.filled.0, c.fits.ensures.filled.1)
