use Rattle.core_state.proofs.state.CoreState.least_ready.Goals as goal

pub returns : goal.returns
returns g c = rw (← c.self.view_is) c.least_ready.ensures
