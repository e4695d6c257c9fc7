use Rattle.board_api.proofs.OutSums.{lists_are_counted, outs_are_sums}
use Rattle.board_api.proofs.OwnDrops.{counts_are_sums}
use Rattle.board_api.proofs.OwnLanes.{deliveries_have_places, lanes_are_served_by_one}
use Rattle.board_api.proofs.OwnPuts.{puts_stand}
use Rattle.run_coupling.specs.Laws.Ends.{AllAreSent, LanesAreDone, PutsEnd, TotalsSuffice}
use Rattle.run_coupling.specs.Laws.Ends.{RepliesSuffice}
use Rattle.run_coupling.proofs.Ends.EndLemmas.{lanes_done, puts_end, totals_suffice}
use Rattle.run_coupling.proofs.Ends.ChoiceCountLemmas.{choices_suffice}
use Rattle.run_goodness.proofs.Names.{own_of, lists_of, at_closings, lanes_are_in_turn}
use Rattle.run_goodness.proofs.Ends.{all_are_sent, replies_keep_choices}
use Rattle.run_coupling.proofs.Ends.TotalLemmas.{replies_suffice}
use Rattle.run_coupling.proofs.Runs.FactLemmas.{gives_within}
use Rattle.run_goodness.proofs.laws.equal_counts_end_a_run.Goals as goal

pub returns-clause-choices : goal.returns-clause-choices
returns-clause-choices c = choices_suffice

pub returns-clause-totals : goal.returns-clause-totals
returns-clause-totals c =
    at_closings TotalsSuffice
    (λ about order fit lawful.
    totals_suffice about (own_of order) (lists_of about order)
    (counts_are_sums about order lawful) (lanes_are_served_by_one about order lawful)
    (lanes_are_in_turn about order lawful))

pub returns-clause-replies : goal.returns-clause-replies
returns-clause-replies c =
    at_closings RepliesSuffice
    (λ about order fit lawful.
    replies_suffice about (own_of order) (lists_of about order) fit
    (gives_within about order lawful).within (deliveries_have_places about order lawful)
    (lanes_are_served_by_one about order lawful) (outs_are_sums about order lawful)
    (counts_are_sums about order lawful) (lanes_are_in_turn about order lawful))

pub returns-clause-done : goal.returns-clause-done
returns-clause-done c =
    at_closings LanesAreDone
    (λ about order fit lawful all.
    lanes_done about (own_of order) (lists_of about order)
    (lists_are_counted about (own_of order) order)
    (counts_are_sums about order lawful) (lanes_are_served_by_one about order lawful)
    (lanes_are_in_turn about order lawful) (puts_stand about order lawful)
    (deliveries_have_places about order lawful) all)

pub returns-clause-puts : goal.returns-clause-puts
returns-clause-puts c =
    at_closings PutsEnd
    (λ about order fit lawful all.
    puts_end about (own_of order) (lists_of about order)
    (lists_are_counted about (own_of order) order)
    (counts_are_sums about order lawful) (lanes_are_served_by_one about order lawful)
    (lanes_are_in_turn about order lawful) (puts_stand about order lawful)
    (deliveries_have_places about order lawful) all)

pub returns-clause-sent : goal.returns-clause-sent
returns-clause-sent c =
    at_closings AllAreSent
    (λ about order fit lawful.
    all_are_sent about (own_of order) (lists_of about order)
    (outs_are_sums about order lawful))

pub returns-clause-keeps : goal.returns-clause-keeps
returns-clause-keeps c = replies_keep_choices
