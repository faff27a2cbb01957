use Rattle.std.proofs.Common.{◌∙◌, ◌++◌, ap, append_assoc, codes, inr, string_bytes, sym}
use Rattle.std.proofs.lemmas.Result.{IfOk-weaker}
use Rattle.globs.specs.Explain.Offers.{IsFindOffer}
use Rattle.globs.specs.Find.Leads.{lead_of}
use Rattle.globs.proofs.explain.deeper.find_line.Goals as goal

pub returns-in-Some : goal.returns-in-Some
unfolding IsFindOffer
returns-in-Some g c =
    let deeper = string_bytes c.in-Some.deeper in
    let lead = lead_of c.args.text.now in
    let end = codes "\n" in
    IfOk-weaker c.offer.result _ _ (λ line is. inr (
      deeper,
      rw c.split_lead-2.ensures.below at (rw c.in-Some.is at c.in_ok-deeper.ensures),
      is ∙ (ap (λ front. codes "for find write: " ++ (front ++ (c.as_str.result.now ++ end))) c.split_lead-2.ensures.lead
          ∙ (ap (λ found. codes "for find write: " ++ (lead ++ (found ++ end))) c.as_str.ensures.value
          ∙ ap (λ whole. codes "for find write: " ++ whole) (sym (append_assoc lead deeper end)))),
    )) c.offer.ensures
