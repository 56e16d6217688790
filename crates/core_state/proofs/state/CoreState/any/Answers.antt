use Rattle.core_state.proofs.state.CoreState.any.Goals as goal

pub returns : goal.returns
returns g c = rw (← c.self.view_is) c.any.ensures
