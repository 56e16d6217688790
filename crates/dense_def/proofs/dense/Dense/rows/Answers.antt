use Rattle.std.proofs.Common.{sym}
use Rattle.dense_def.proofs.RowByRow.{stores}
use Rattle.dense_def.proofs.dense.Dense.rows.Goals as goal

pub returns-clause-count : goal.returns-clause-count
returns-clause-count c = sym (stores _ _ _ _ c.self.view_is).tall

pub returns-clause-whole : goal.returns-clause-whole
returns-clause-whole c = (stores _ _ _ _ c.self.view_is).whole
