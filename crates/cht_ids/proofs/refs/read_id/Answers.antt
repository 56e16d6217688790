use Rattle.std.proofs.Common.{◌≡◌, ◌+◌, ◌^◌, take, drop, Some, None, sym, arith}
use Rattle.std.proofs.lemmas.Grind.{common_steps}
use Rattle.cht_ids.specs.Numeral.{plain_below}
use Rattle.cht_ids.proofs.RefTexts.{id_owner, id_number, id_has_colon, id_whole}
use Rattle.cht_ids.proofs.refs.read_id.Goals as goal

pub returns-in_err-colon-clause-no_text : goal.returns-in_err-colon-clause-no_text
returns-in_err-colon-clause-no_text c = rw c.from_residual.ensures
    (λ id fits e. id_has_colon id c.args.word.now fits e (sym c.in_err-colon.ensures))

pub returns-in_err-owner-clause-no_text : goal.returns-in_err-owner-clause-no_text
returns-in_err-owner-clause-no_text c = rw c.from_residual-in_err-owner.ensures (λ id fits e.
    let owner = id_owner id c.args.word.now c.in_ok-colon.colon fits e (sym c.in_ok-colon.ensures) in
    let none : plain_below (2 ^ 32) (take c.in_ok-colon.colon c.args.word.now) ≡ None = grind (arith, c.in_err-owner.ensures) in
    cc)

pub returns-in_err-number-clause-no_text : goal.returns-in_err-number-clause-no_text
returns-in_err-number-clause-no_text c = rw c.from_residual-in_err-number.ensures (λ id fits e.
    let number = id_number id c.args.word.now c.in_ok-colon.colon fits e (sym c.in_ok-colon.ensures) in
    let none : plain_below (2 ^ 128) (drop (c.in_ok-colon.colon + 1) c.args.word.now) ≡ None = grind (arith, common_steps, c.in_err-number.ensures) in
    cc)

pub returns-clause-read : goal.returns-clause-read
returns-clause-read c =
    let owner : plain_below (2 ^ 32) (take c.in_ok-colon.colon c.args.word.now) ≡ Some c.in_ok-owner.owner = grind (arith, c.in_ok-owner.ensures) in
    let number : plain_below (2 ^ 128) (drop (c.in_ok-colon.colon + 1) c.args.word.now) ≡ Some c.in_ok-number.number = grind (arith, common_steps, c.in_ok-number.ensures) in
    id_whole c.args.word.now c.in_ok-colon.colon c.in_ok-owner.owner c.in_ok-number.number (sym c.in_ok-colon.ensures) owner number
