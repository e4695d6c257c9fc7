-- What holds at each closing of a board, in one record.
use Rattle.std.specs.Prelude.{ℕ, ◌<◌, List}
use Rattle.dev_flow_table.proofs.FoldsLemmas as folds
use Rattle.hop_rule.specs.Boards.{IsLawful}
use Rattle.hop_rule.specs.Owns.{own_of}
use Rattle.hop_rule.proofs.Boards.{step_lawful}
use Rattle.board_api.specs.Closings.Closings.{AtEachClosing}
use Rattle.board_api.specs.Closings.Finals.{lists_of}
use Rattle.board_api.specs.Laws.Heads.{HeadsAreBelowTails, HeadsRise, ReadsAreSettings}
use Rattle.board_api.specs.Laws.Heads.{VisitNumbersRise}
use Rattle.board_api.specs.Laws.Lanes.{HoldsFindFronts, OutsAreSums}
use Rattle.board_api.specs.Laws.Puts.{AcceptedWerePut, DropsHaveCauses, DropsRise, DropsWerePut}
use Rattle.board_api.specs.Laws.Puts.{PutsStand}
use Rattle.board_api.proofs.Endings.{at_closings}
use Rattle.board_api.proofs.OutSums.{lists_are_counted, outs_are_sums}
use Rattle.board_api.proofs.OwnDrops.{counts_are_sums, drops_have_causes, drops_rise}
use Rattle.board_api.proofs.OwnHeads.{heads_are_below, heads_rise}
use Rattle.board_api.proofs.OwnLanes.{deliveries_have_places, holds_find_fronts, lanes_are_in_turn}
use Rattle.board_api.proofs.OwnLanes.{lanes_are_served_by_one}
use Rattle.board_api.proofs.OwnPuts.{accepted_were_put, drops_were_put, puts_stand}
use Rattle.board_api.proofs.OwnTimes.{step_is, when}
use Rattle.board_api.proofs.OwnVisits.{numbered_reads_are_settings, reads_are_settings}
use Rattle.board_api.proofs.OwnVisits.{visit_numbers_rise}
use Rattle.hop_delivery.specs.Closings.FlowLaw.{FlowsAreInOrder}
use Rattle.hop_delivery.specs.Closings.TurnReads.{RulesAreByReads, TurnsKnowSettings}
use Rattle.hop_delivery.proofs.Closings.FlowLemmas.{flows_in_order}
use Rattle.hop_delivery.proofs.Closings.RuleLemmas.{rules_by_reads}
use Rattle.hop_delivery.proofs.Closings.TurnReadLemmas.{turns_know}
use Rattle.hop_delivery.specs.Closings.PutPlaces.{AnswersArePlaces, PacketsStand}
use Rattle.hop_delivery.proofs.Closings.PutPlaceLemmas.{answers_are_places, packets_stand}
use Rattle.run_coupling.specs.Laws.OwnTables.{TablesRule}
use Rattle.run_coupling.proofs.Names.{StepBy, FitSizes, BoardSizes, BoardStep, Lane, Given, Has}
use Rattle.run_coupling.proofs.Names.{DeliveriesHavePlaces, LanesAreInTurn, LanesAreServedByOne}
use Rattle.run_coupling.proofs.Names.{ListsAreCounted, CountsAreSums, BoardLists}
use Rattle.run_coupling.proofs.Turns.TableEntryLemmas.{tables_are_entries}
use Rattle.run_coupling.proofs.Turns.TableLemmas.{tables_rule}

-- a delivery is from a lane of the board to an out lane of the board
pub record GivesWithin (about : BoardSizes) (own : ℕ → List BoardStep) : Type 0 where
  pub within : (q k o from id place : ℕ) → Has (own q) k (Lane (Given o from id place))
      → (o < about.outs) × (from < about.lanes)

pub gives_within : (about : BoardSizes) (order : List (StepBy BoardStep)) → IsLawful about order
    → GivesWithin about (own_of order)
gives_within about order lawful =
    record {
      within = λ q k o from id place does.
          (let d : BoardStep = Lane (Given o from id place) in
          let may = (step_lawful about order (when order q k) q d lawful
          (step_is order q k d does)).1.0 in
          (may.0, may.1));
    }

pub record BoardFacts (about : BoardSizes) (own : ℕ → List BoardStep) (lists : BoardLists)
    : Type 0 where
  pub fit : FitSizes about
  pub gives : GivesWithin about own
  pub counted : ListsAreCounted about own lists
  pub sums : CountsAreSums about own lists
  pub outs : OutsAreSums about own lists
  pub stand : PutsStand about own lists
  pub accepted : AcceptedWerePut about own lists
  pub dropped : DropsWerePut about own lists
  pub causes : DropsHaveCauses about own lists
  pub rise : DropsRise about own lists
  pub served : LanesAreServedByOne about own lists
  pub turn : LanesAreInTurn about own lists
  pub places : DeliveriesHavePlaces about own lists
  pub holds : HoldsFindFronts about own lists
  pub heads : HeadsRise about own lists
  pub below : HeadsAreBelowTails about own lists
  pub visits : VisitNumbersRise about own lists
  pub reads : ReadsAreSettings about own lists
  pub turns_know : TurnsKnowSettings about own lists
  pub rules : RulesAreByReads about own lists
  pub order : FlowsAreInOrder about own lists
  pub answers : AnswersArePlaces about own lists
  pub tables : TablesRule about own lists
  pub packets : PacketsStand about own lists

facts_of : (about : BoardSizes) (order : List (StepBy BoardStep)) → FitSizes about
    → IsLawful about order → BoardFacts about (own_of order) (lists_of about order)
facts_of about order fit lawful =
    let own : ℕ → List BoardStep = own_of order in
    let lists : BoardLists = lists_of about order in
    let stand = puts_stand about order lawful in
    let were = accepted_were_put about order lawful in
    let read = reads_are_settings about order fit lawful in
    let by_turn = turns_know about own lists read
    (numbered_reads_are_settings about order fit lawful) in
    let answers = answers_are_places about own lists stand were in
    record {
      fit = fit;
      gives = gives_within about order lawful;
      counted = lists_are_counted about own order;
      sums = counts_are_sums about order lawful;
      outs = outs_are_sums about order lawful;
      stand = stand;
      accepted = were;
      dropped = drops_were_put about order lawful;
      causes = drops_have_causes about order lawful;
      rise = drops_rise about order lawful;
      served = lanes_are_served_by_one about order lawful;
      turn = lanes_are_in_turn about order lawful;
      places = deliveries_have_places about order lawful;
      holds = holds_find_fronts about order lawful;
      heads = heads_rise about order lawful;
      below = heads_are_below about order lawful;
      visits = visit_numbers_rise about order fit lawful;
      reads = read;
      turns_know = by_turn;
      rules = rules_by_reads about own lists by_turn;
      order = flows_in_order about order lawful fit;
      answers = answers;
      tables =
          tables_rule about own lists
          (tables_are_entries about own lists folds.table_is_entries answers);
      packets = packets_stand about own lists were (drops_were_put about order lawful);
    }

pub facts_at_closings : AtEachClosing BoardFacts
facts_at_closings = at_closings BoardFacts facts_of
