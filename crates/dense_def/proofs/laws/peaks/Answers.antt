use Rattle.dense_def.proofs.Peaks.{entry_le_peak, peak_least, peak-zero, peak-joined, peak-transposed}
use Rattle.dense_def.proofs.laws.peaks.Goals as goal

pub returns : goal.returns
returns c =
    record {
      bound = entry_le_peak;
      least = peak_least;
      zero = peak-zero;
      join = peak-joined;
      transpose = peak-transposed;
    }
