-- What decides a table's judgment. Assumes nothing.
use Rattle.std.proofs.Common.{◌≡◌, ◌≢◌, ◌≤◌, ◌<◌, true, false, length, eq-eqb, ne_eqb, le-ltb, le-leb}
use Rattle.std.proofs.lemmas.Bool.{lt-leb}
use Rattle.rules.specs.Columns.{Table, most_nodes, most_links, narrow, net_in, net_of}
use Rattle.rules.specs.Refusals.{only, refused, wrong_node_count, wrong_root, wrong_columns, judge_each, judge_links}
use Rattle.rules.specs.declared.Profile.{Profile}

module _ (t : Table) where
  pub count_decides : wrong_node_count t ≡ true → refused 1 (only 0) ≡ judge_links t
  unfolding judge_links
  count_decides wrong = rw wrong

  module _ (count : wrong_node_count t ≡ false) where
    pub root_decides : wrong_root t ≡ true → refused 2 (only 0) ≡ judge_links t
    unfolding judge_links
    root_decides wrong = rw (count, wrong)

    module _ (root : wrong_root t ≡ false) where
      pub columns_decide : wrong_columns t ≡ true → refused 3 (only 0) ≡ judge_links t
      unfolding judge_links
      columns_decide wrong = rw (count, root, wrong)

      pub links_decide : wrong_columns t ≡ false → judge_each t ≡ judge_links t
      unfolding judge_links
      links_decide columns = rw (count, root, columns)

-- ---- past the tests of the code

module _ (t : Table) (some : t.nodes ≢ 0) (few : t.nodes ≤ most_nodes) where
  count_right : wrong_node_count t ≡ false
  count_right = rw (ne_eqb _ _ some, le-ltb _ _ few)

  pub past_count : t.nodes ≤ t.root → refused 2 (only 0) ≡ judge_links t
  past_count past = root_decides t count_right (le-leb _ _ past)

  module _ (node : t.root < t.nodes) where
    pub past_root : wrong_columns t ≡ true → refused 3 (only 0) ≡ judge_links t
    past_root = columns_decide t count_right (lt-leb _ _ node)

    pub past_columns : length t.starts ≡ length t.ends → length t.starts ≡ length t.costs → length t.starts ≤ most_links → judge_each t ≡ judge_links t
    past_columns ends costs links =
        links_decide t count_right (lt-leb _ _ node) (rw (eq-eqb _ _ ends, eq-eqb _ _ costs, le-ltb _ _ links))

-- ---- the judged table

-- its network is that of the rules
pub judged_net : (p : Profile) (judged t : Table) → p ≡ narrow → judged ≡ t → net_in p judged ≡ net_of t
judged_net p judged t e same = rw (e, same)
