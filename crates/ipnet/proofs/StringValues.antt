-- JSON values that spell a network.
use Rattle.std.proofs.Common.{◌≡◌, ℕ, List, Some, Result, Ok, Err, MatchResult, sym, ap, ◌∙◌, subst}
use Rattle.std.specs.Net.Grammar.{Parses}
use Rattle.serde_json.specs.Data.{Data, null, boolean, number, string, array, object}
use Rattle.serde_json.specs.Find.{as_str}
use Rattle.ipnet.specs.Forms.{IsStringOf}

pub string_is : (d : Data) (text : List ℕ) → Some text ≡ as_str d → d ≡ string text
string_is null text e = absurd (cc)
string_is (boolean b) text e = absurd (cc)
string_is (number n) text e = absurd (cc)
string_is (string s) text e = let same : text ≡ s = cc in ap string (sym same)
string_is (array ds) text e = absurd (cc)
string_is (object ms) text e = absurd (cc)

-- what a text spells is what its string spells
pub spelled_by_string : {N E : Type 0} (Reads : List ℕ → N → Type 0) (d : Data) (text : List ℕ) (r : Result N E) → d ≡ string text → Parses Reads text r
    → MatchResult r (IsStringOf Reads d) (λ _. (n : N) → IsStringOf Reads d n → ⊥)
spelled_by_string Reads d text (Ok n) e h = record { text = text; is = e; reads = h }
spelled_by_string {N} {E} Reads d text (Err x) e h = λ n k.
    let both : string k.text ≡ string text = sym k.is ∙ e in
    let same : k.text ≡ text = cc in
    h n (subst (λ t. Reads t n) same k.reads)
