-- What a call promises fixes its answer and every lent buffer: two results that keep the promise of an entry for the same input are equal.
use mathlib.Core.Path.{◌≡◌, sym, ◌∙◌}
use mathlib.Core.List.{List}
use Prim.Native.Nat.{ℕ}
use lib.IntN.{ℤ}
use lib.Ieee.{Float}
use Rattle.rules.specs.declared.Extent.{Extent}
use Rattle.rules.specs.declared.FloorAnswer.{FloorAnswer}
use Rattle.rules.specs.declared.Particle.{Particle}
use Rattle.rules.specs.declared.Refusal.{Refusal}
use Rattle.rules.specs.declared.Settings.{Settings}
use Rattle.rules.specs.declared.TreeAnswer.{TreeAnswer}
use Rattle.rules.specs.declared.Counts.{Counts}
use Rattle.rules.specs.declared.StepAnswer.{StepAnswer}
use Rattle.rules.specs.Outcome.{Outcome}
use Rattle.rules.specs.Floor.{floor_answer}
use Rattle.rules.specs.Root.{root_bits}
use Rattle.rules.specs.Tree.{Tree}
use Rattle.rules.specs.Walk.{Counted}
use Rattle.rules.specs.Flow.{Flow}
use Rattle.rules.specs.Calls.{TreeInput, ForceInput}
use Rattle.rules.specs.Tick.{SheetInput}
use Rattle.rules.specs.Outline.{OutlineInput}
use Rattle.rules.specs.Edits.{EditsInput}
use Rattle.rules.specs.Records.{RecordsInput}
use Rattle.tree_call.specs.Tree.{AfterTree}
use Rattle.outline.specs.Unwrap.{Unwrapped}
use Rattle.edits_call.specs.Call.{AfterEdits}
use Rattle.force_call.specs.Calls as Force
use Rattle.tick_call.specs.Tick.{AfterTick}
use Rattle.step_call.specs.Step.{AfterStep}
use Rattle.talemiku.specs.AfterParticles.{AfterParticles}
use Rattle.talemiku.specs.AfterRecords.{Written, ReadOut}

-- The one step behind all of them: what is equal to the same is equal.
same : {A : Type 0} {a b c : A} → a ≡ c → b ≡ c → a ≡ b
same p q = p ∙ sym q

-- The floor: the answer.
pub floor-unique : (x : Float) (r r' : FloorAnswer) → r ≡ floor_answer x → r' ≡ floor_answer x → r ≡ r'
floor-unique x r r' e f = same e f

-- The root: its bits.
pub root-unique : (bits r r' : ℕ) → r ≡ root_bits bits → r' ≡ root_bits bits → r ≡ r'
root-unique bits r r' e f = same e f

-- The tree call: its answer, both lists and the work slots.
pub tree-unique : (l : TreeInput) (o : Outcome (Tree Extent)) (r r' : TreeAnswer) (rows chains work rows' chains' work' : List ℕ)
    → AfterTree l o r rows chains work → AfterTree l o r' rows' chains' work' → (r ≡ r') × (rows ≡ rows') × (chains ≡ chains') × (work ≡ work')
tree-unique l o r r' rows chains work rows' chains' work' e f =
    (same e.answer f.answer, same e.listed f.listed, same e.chained f.chained, same e.worked f.worked)

-- ManyBody, Collide and Link: the answer, the buffer and the work slots.
pub force-unique : (l : ForceInput) (o : Outcome (Counted Flow)) (r r' : Counts) (buffer work buffer' work' : List ℕ)
    → Force.AfterForce l o r buffer work → Force.AfterForce l o r' buffer' work' → (r ≡ r') × (buffer ≡ buffer') × (work ≡ work')
force-unique l o r r' buffer work buffer' work' e f = (same e.answer f.answer, same e.bytes f.bytes, same e.slots f.slots)

-- Center and the closing move: the answer and the particles.
pub list_unique : (o : Outcome (List Particle)) (ps : List Particle) (r r' : Refusal) (after after' : List Particle)
    → AfterParticles o ps r after → AfterParticles o ps r' after' → (r ≡ r') × (after ≡ after')
list_unique o ps r r' after after' e f = (same e.answer f.answer, same e.particles f.particles)

-- A tick: the answer, the sheet, alpha and the work slots.
pub tick-unique : (l : SheetInput) (s : Settings) (r r' : Counts) (sheet sheet' : List ℕ) (alpha alpha' : ℕ) (work work' : List ℕ)
    → AfterTick l s r sheet alpha work → AfterTick l s r' sheet' alpha' work' → (r ≡ r') × (sheet ≡ sheet') × (alpha ≡ alpha') × (work ≡ work')
tick-unique l s r r' sheet sheet' alpha alpha' work work' e f =
    (same e.answer f.answer, same e.sheet f.sheet, same e.alpha f.alpha, same e.work f.work)

-- A step: the same.
pub step-unique : (l : SheetInput) (s : Settings) (least : Float) (budget : ℕ) (r r' : StepAnswer) (sheet sheet' : List ℕ) (alpha alpha' : ℕ) (work work' : List ℕ)
    → AfterStep l s least budget r sheet alpha work → AfterStep l s least budget r' sheet' alpha' work'
    → (r ≡ r') × (sheet ≡ sheet') × (alpha ≡ alpha') × (work ≡ work')
step-unique l s least budget r r' sheet sheet' alpha alpha' work work' e f =
    (same e.answer f.answer, same e.sheet f.sheet, same e.alpha f.alpha, same e.work f.work)

-- An outline: the answer and the output.
pub unwrap_unique : (l : OutlineInput) (r r' : Refusal) (after after' : List ℤ) → Unwrapped l r after → Unwrapped l r' after' → (r ≡ r') × (after ≡ after')
unwrap_unique l r r' after after' e f = (same e.answer f.answer, same e.written f.written)

-- A list of edits: the answer, both lists and the work slots.
pub edits-unique : (l : EditsInput) (r r' : TreeAnswer) (rows chains work rows' chains' work' : List ℕ)
    → AfterEdits l r rows chains work → AfterEdits l r' rows' chains' work' → (r ≡ r') × (rows ≡ rows') × (chains ≡ chains') × (work ≡ work')
edits-unique l r r' rows chains work rows' chains' work' e f =
    (same e.answer f.answer, same e.listed f.listed, same e.chained f.chained, same e.worked f.worked)

-- The writer: the answer and the sheet.
pub write_unique : (l : RecordsInput) (r r' : Refusal) (out out' : List ℕ) → Written l r out → Written l r' out' → (r ≡ r') × (out ≡ out')
write_unique l r r' out out' e f = (same e.answer f.answer, same e.sheet f.sheet)

-- The reader: the answer and the particles.
pub read-unique : (l : RecordsInput) (r r' : Refusal) (after after' : List Particle) → ReadOut l r after → ReadOut l r' after' → (r ≡ r') × (after ≡ after')
read-unique l r r' after after' e f = (same e.answer f.answer, same e.particles f.particles)
