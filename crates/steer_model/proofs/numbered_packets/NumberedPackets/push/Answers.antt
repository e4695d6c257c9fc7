use Rattle.std.proofs.Common.{◌∙◌, ap, subst, sym}
use Rattle.steer_model.specs.Capture.FlowKeys.{FlowFits}
use Rattle.steer_model.specs.Capture.FlowNumbers.{IsNumberOf}
use Rattle.steer_model.proofs.Steps.ReadLemmas.{has-packets-more}
use Rattle.steer_model.proofs.numbered_packets.NumberedPackets.push.Goals as goal
use Rattle.toeplitz.specs.Flows.{hash_of_flow}

pub returns : goal.returns
returns c key kinds frames frame has is =
    let old = c.args.self.now in
    let shown = c.of.ensures in
    let flow = shown ∙ sym (ap (λ d. d.flow) is) in
    has-packets-more key kinds frames frame old _ _ has c.in_ok-push.ensures.items
    (record {
      flow = flow;
      hash = sym (ap (λ d. d.hash) is) ∙ ap (λ f. hash_of_flow key f kinds) (sym flow);
      len = sym (ap (λ d. d.len) is);
    })
    (subst FlowFits (sym shown) c.number_of.ensures.fits)
    (subst (λ f. IsNumberOf old.numbers c.number_of.new.self f c.in_ok-flow_number.flow_number)
    (sym shown) c.in_ok-flow_number.ensures.number)
