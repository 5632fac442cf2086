-- `stream::read_at` meets its contract: the tests that led to an answer say which case of `read_at` holds, and what
-- `body_length` gives says whether the kind is known and how long the body is. Assumes nothing.
use mathlib.Core.Path.{◌≡◌, sym, ◌∙◌}
use native.Mathlib.Omega.{arith}
use lib.ListN.{get_or}
use Rattle.std.specs.Prelude.{Some}
use Rattle.stream.specs.Records.{body_length}
use Rattle.stream.proofs.Laws.{reads_end, reads_unknown, reads_cut, reads_record, is_given_lem}
use Rattle.stream.proofs.read_at.Goals as goal

pub returns-then-stream-place : goal.returns-then-stream-place
returns-then-stream-place c =
    let given = c.args in
    is_given_lem given.stream.now given.place (c.stay.ensures ∙ reads_end given.stream.now given.place c.if-stream-place.true)

pub returns-in_default : goal.returns-in_default
returns-in_default c =
    let given = c.args in
    let unknown = sym c.body_length.ensures ∙ c.in_default.is in
    is_given_lem given.stream.now given.place
    (c.stay-in_default.ensures ∙ reads_unknown given.stream.now given.place c.if-stream-place.false unknown)

pub returns-then-stream-body : goal.returns-then-stream-body
returns-then-stream-body c =
    let known : body_length (get_or c.args.stream.now c.args.place 0) ≡ Some c.in-Some.length = sym c.in-Some.ensures in
    let given = c.args in
    is_given_lem given.stream.now given.place
    (c.stay-then-stream-body.ensures ∙ reads_cut given.stream.now given.place c.if-stream-place.false known (omega arith))

pub returns : goal.returns
returns c =
    let known : body_length (get_or c.args.stream.now c.args.place 0) ≡ Some c.in-Some.length = sym c.in-Some.ensures in
    let given = c.args in
    rw c.record_at-item.ensures (is_given_lem given.stream.now given.place (reads_record given.stream.now given.place c.if-stream-place.false known (omega arith)))
