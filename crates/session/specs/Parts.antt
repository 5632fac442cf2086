-- What the parts of a LINK and of a CHANGE hand back: what their answer leaves, whatever was judged before. Assumes nothing.
use Rattle.std.specs.Prelude.{◌≡◌, ℕ, take}
use Rattle.rules.specs.Answers.{Answer, told}
use Rattle.enter.specs.More.{LinkJudged, RowJudged}
use Rattle.state.specs.declared.State.{State}
use Rattle.state.specs.declared.Done.{Done}
use Rattle.state.specs.States.{linked, changing}
use Rattle.session.specs.declared.Lists.{Lists}
use Rattle.session.specs.Steps.{link_lists, change_lists}

pub record LinkTaken (s : State) (k : Lists) (start end cost : ℕ) (r : Done) (l : Lists) : Type 0 where
  pub answer : Answer
  pub judged : LinkJudged s.nodes (take s.links k.starts) start end answer
  pub done : r ≡ linked (told answer) s
  pub lists_now : l ≡ link_lists (told answer) s k start end cost

pub record RowTaken (s : State) (k : Lists) (link cost : ℕ) (r : Done) (l : Lists) : Type 0 where
  pub answer : Answer
  pub judged : RowJudged s.links (take s.rows k.changed) link answer
  pub done : r ≡ changing (told answer) s
  pub lists_now : l ≡ change_lists (told answer) s k link cost
