use Rattle.std.proofs.Common.{sym, ap, ◌∙◌, subst, All, map, length}
use Rattle.std.proofs.lemmas.Bool.{eqb-true, eqb-false}
use Rattle.cht_session.specs.Listed.{spot_in, IsCounted, ArePutInOrder}
use Rattle.cht_session.proofs.ListedEntries.{market_counted}
use Rattle.cht_session.proofs.MirroredEntries.{nothing_listed, market_listed}
use Rattle.cht_session.proofs.listed.list_of.Goals as goal

pub returns-then-is_empty : goal.returns-then-is_empty
returns-then-is_empty c =
    nothing_listed c.args.leaf c.args.height c.args.market.now
    (eqb-true (length c.args.market.now.entries) 0 (sym c.is_empty.ensures ∙ c.if-is_empty.true))

pub spots_of-requires : goal.spots_of-requires
spots_of-requires c = subst (All IsCounted) (sym c.as_slice.ensures) (market_counted _ c.args.market.now c.requires.good)

pub returns : goal.returns
returns c =
    let form = c.args.market.now.form in
    market_listed c.args.leaf c.args.height c.args.market.now c.in_ok-spots.spots.items c.from_vec.result c.is_symmetric.result
    c.requires.good c.requires.leaf c.requires.small c.requires.height
    (eqb-false (length c.args.market.now.entries) 0 (sym c.is_empty.ensures ∙ c.if-is_empty.false))
    (c.in_ok-spots.ensures.moved ∙ ap (map (spot_in form)) c.as_slice.ensures) c.in_ok-spots.ensures.small
    (subst (ArePutInOrder form c.in_ok-spots.spots.items) (sym c.from_vec.ensures) c.put_in_order.ensures) c.is_symmetric.ensures
