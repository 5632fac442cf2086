-- `session::step_lent` meets its contract: each arm is what Keeps says of its item. Assumes nothing.
use Rattle.session.specs.Holding.{lists}
use Rattle.session.proofs.Keeps.{few_nodes, steps_network, steps_link, steps_change, steps_apply, steps_ask, steps_end, steps_unknown, steps_cut, steps_disorder}
use Rattle.session.proofs.step_lent.Goals as goal

pub ask-requires : goal.ask-requires
ask-requires c = few_nodes c.ready-at-in-Ask.result (lists c.args.starts.now c.args.ends.now c.args.costs.now c.args.changed.now c.args.newcosts.now c.args.list.now) c.ready-at-in-Ask.ensures.stands

pub returns-then-not-in_order : goal.returns-then-not-in_order
returns-then-not-in_order c = steps_disorder c.requires c.in_order.ensures c.if-not-in_order.true c.refuse.ensures

pub returns-in-Network : goal.returns-in-Network
returns-in-Network c = steps_network c.requires c.in_order.ensures c.if-not-in_order.false c.in-Network.is c.network.ensures

pub returns-in-Link : goal.returns-in-Link
returns-in-Link c = steps_link c.requires c.in_order.ensures c.if-not-in_order.false c.in-Link.is (c.link.ensures c.args.changed.now c.args.newcosts.now c.args.list.now)

pub returns-in-Change : goal.returns-in-Change
returns-in-Change c =
    let at = c.ready-at.ensures in
    steps_change c.requires c.in_order.ensures c.if-not-in_order.false c.in-Change.is at.ready at.stands (c.change.ensures c.args.starts.now c.args.ends.now c.args.costs.now c.args.list.now)

pub returns-in-Apply : goal.returns-in-Apply
returns-in-Apply c = steps_apply c.requires c.in_order.ensures c.if-not-in_order.false c.in-Apply.is c.ready-at-in-Apply.ensures.ready c.apply.ensures

pub returns-in-Ask : goal.returns-in-Ask
returns-in-Ask c = steps_ask c.requires c.in_order.ensures c.if-not-in_order.false c.in-Ask.is c.ready-at-in-Ask.ensures.ready c.ask.ensures

pub returns-in-End : goal.returns-in-End
returns-in-End c = steps_end c.requires c.in_order.ensures c.if-not-in_order.false c.in-End.is

pub returns-in-UnknownKind : goal.returns-in-UnknownKind
returns-in-UnknownKind c = steps_unknown c.requires c.in_order.ensures c.if-not-in_order.false c.in-UnknownKind.is c.refuse-in-UnknownKind.ensures

pub returns-in-CutShort : goal.returns-in-CutShort
returns-in-CutShort c = steps_cut c.requires c.in_order.ensures c.if-not-in_order.false c.in-CutShort.is c.refuse-in-CutShort.ensures
