use Rattle.dense_def.proofs.Blocks.{block-times, joined-block, block-joined}
use Rattle.dense_def.proofs.laws.blocks.Goals as goal

pub returns : goal.returns
returns c =
    record {
      product = block-times;
      join = joined-block;
      parts = block-joined;
    }
