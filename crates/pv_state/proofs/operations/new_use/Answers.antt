use Rattle.std.proofs.Common.{refl, pos}
use Rattle.pv_state.proofs.Taken.{when_err}
use Rattle.pv_state.proofs.Tabled.{new_does, new_halts, new_sort_in, new_stores}
use Rattle.pv_state.proofs.operations.new_use.Goals as goal

pub returns-in_err-push-clause-halts : goal.returns-in_err-push-clause-halts
returns-in_err-push-clause-halts g c =
    let K = g.K.Asker in
    when_err c.from_residual-in_err-push.result (new_halts K.path K.turns K.decisions K.stands K.ended K.sorts
    c.args.asker.now c.make_symbol.new.asker c.args.own.now c.args.stores.now c.args.operation c.args.a c.args.b
    c.in_ok-value.ensures.goes c.in_ok-value.ensures.tells c.in_ok-value.ensures.made c.in_ok-value.ensures.sorted)

pub returns-clause-does : goal.returns-clause-does
returns-clause-does g c =
    let K = g.K.Asker in
    new_does K.path K.turns K.decisions K.stands K.ended K.sorts c.args.asker.now c.make_symbol.new.asker c.args.own.now
    c.args.stores.now c.args.operation c.args.a c.args.b c.in_ok-value.ensures.goes c.in_ok-value.ensures.tells
    c.in_ok-value.ensures.made c.in_ok-value.ensures.sorted
    (record { uses = c.push.new.self; met = c.args.stores.now.met; picks = c.args.stores.now.picks })
    (record { symbol = c.in_ok-value.value; plus = pos 0 }) c.in_ok-value.ensures.turns c.in_ok-value.ensures.symbol refl
    refl refl c.in_ok-push.ensures.items

pub returns-clause-made : goal.returns-clause-made
returns-clause-made g c = new_sort_in _ _ _ _ c.in_ok-value.ensures.made c.in_ok-value.ensures.symbol

pub returns-clause-stores : goal.returns-clause-stores
returns-clause-stores g c = new_stores _ _ c.args.stores.now
    (record { uses = c.push.new.self; met = c.args.stores.now.met; picks = c.args.stores.now.picks }) c.args.operation c.args.a
    c.args.b c.in_ok-value.value c.in_ok-value.ensures.made c.in_ok-value.ensures.symbol c.requires.a c.requires.b
    c.in_ok-push.ensures.items refl refl c.requires.stores
