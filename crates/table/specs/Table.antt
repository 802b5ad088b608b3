-- T1 to T13 of document 01: one computed table, and that every case of it holds. Behind it the lister's sample, lent lengths, what T1 to T13 leave open, the limits, outlines, edits, sheets that are written and read, and recentering.
use Rattle.std.specs.Prelude.{◌≡◌, refl, Bool, true, false, ◌&&◌, ◌||◌, not, cond, List, [], ◌∷◌, ◌++◌, map, ℕ, zero, suc, ◌+◌, ◌-◌, ◌*◌, ◌^◌, eqb, ℤ, pos, neg_ℤ, ◌+ℤ◌, ◌-ℤ◌, length, replicate, Float}
use Rattle.std.specs.Int.Signed.{le_z}
use Rattle.std.specs.Float.Ieee.{neg}
use Rattle.rules.specs.declared.Particle.{Particle}
use Rattle.rules.specs.declared.Refusal.{Refusal}
use Rattle.rules.specs.declared.Settings.{Settings}
use Rattle.rules.specs.Plain.{all, padded}
use Rattle.rules.specs.Outcome.{Outcome, refusal_of, if_done, work_after}
use Rattle.rules.specs.Number.{◌⊖◌, ◌⊗◌, ◌⊘◌, 0·, 1·, 2·, limit, float_of, bits_of}
use Rattle.rules.specs.Root.{root_bits}
use Rattle.rules.specs.Refusal.{most_particles}
use Rattle.rules.specs.Sheet.{record_size, particle, sheet_of, places_of, speeds_of, pairs_bytes}
use Rattle.rules.specs.Cover.{whole}
use Rattle.rules.specs.Tree.{row_numbers}
use Rattle.rules.specs.Walk.{Counted}
use Rattle.rules.specs.Flow.{Flow}
use Rattle.rules.specs.Calls.{slot_words, TreeInput, tree_result, tree_answer, rows_after, chains_after, tree_work_after, ForceInput, many_body_result, collide_result, link_result, force_answer, buffer_after, center_result, closing_result, particles_after}
use Rattle.rules.specs.Tick.{settings, SheetInput, tick_answer, sheet_after_tick, alpha_after_tick, work_after_tick, step_answer, alpha_after_step}
use Rattle.rules.specs.Listing.{lister, ascii}
use Rattle.rules.specs.Outline.{OutlineInput, outline_answer, unwrapped_after}
use Rattle.rules.specs.Records.{RecordsInput, write_answer, sheet_after_write, read_answer, particles_after_read}
use Rattle.rules.specs.Edits.{edits_of, insertions, EditsInput, edits_answer, edit_rows_after, edit_chains_after, edit_work_after}
use Rattle.rules.specs.Recenter.{recentered}
use Rattle.rules.specs.Opened.{opened}
use Rattle.rules.specs.Terms.{resting}

-- ---- numbers, and tests of equality

plus : ℕ → Float
plus n = whole (pos n)

minus : ℕ → Float
minus n = whole (neg_ℤ (pos n))

half : Float → Float
half x = x ⊘ 2·

−0· : Float
−0· = float_of (2 ^ 63)

-- 2 ^ -k
tiny : ℕ → Float
tiny k = 1· ⊘ plus (2 ^ k)

equals : List ℕ → List ℕ → Bool
equals [] [] = true
equals [] (b ∷ bs) = false
equals (a ∷ l) [] = false
equals (a ∷ l) (b ∷ bs) = eqb a b && equals l bs

same_bits : List Float → List Float → Bool
same_bits l k = equals (map bits_of l) (map bits_of k)

is_refusal : ℕ → ℕ → Refusal → Bool
is_refusal number place r = eqb r.number number && eqb r.place place

-- ---- trees: every lent list holds 9 or 7 before the call

-- lent for the points at these places, with this many slots
tree : ℕ → List Float → TreeInput
tree slots at =
    let ps = resting at in
    record { sheet = sheet_of ps; rows = replicate (slots * row_numbers) 9; chains = replicate (length ps) 9; work = replicate (slots * slot_words + 1) 7 }

-- accepted, with these ends, rows and chains, and every work slot zero
lists : TreeInput → List Float → List ℕ → List ℕ → Bool
lists l ends rows chains =
    let o = tree_result most_particles l in
    let a = tree_answer l o in
    let e = a.extent in
    is_refusal 0 0 a.refusal
    && same_bits (e.x0 ∷ e.y0 ∷ e.x1 ∷ e.y1 ∷ []) ends
    && equals (rows_after l o) rows
    && equals (chains_after l o) chains
    && all (eqb 0) (tree_work_after l o)

counts : TreeInput → ℕ → Bool
counts l n = eqb (tree_answer l (tree_result most_particles l)).nodes n

-- refused, with both lists unchanged, and the work slots all holding w
refuses_tree : TreeInput → ℕ → ℕ → ℕ → Bool
refuses_tree l number place w =
    let o = tree_result most_particles l in
    is_refusal number place (tree_answer l o).refusal
    && counts l 0
    && all (eqb 9) (rows_after l o)
    && all (eqb 9) (chains_after l o)
    && all (eqb w) (tree_work_after l o)

-- the level of every leaf
leaves_at : ℕ → List ℕ → Bool
leaves_at n [] = true
leaves_at n (l ∷ []) = true
leaves_at n (l ∷ q ∷ []) = true
leaves_at n (l ∷ q ∷ k ∷ []) = true
leaves_at n (l ∷ q ∷ k ∷ c ∷ rows) = (not (eqb k 2) || eqb l n) && leaves_at n rows

-- ---- forces, from rest: the velocities are a part of a longer buffer

before : List ℕ
before = 1 ∷ 2 ∷ 3 ∷ []

behind : List ℕ
behind = 4 ∷ []

-- lent for the points at these places, with these draws
force : List Float → List Float → ForceInput
force at draws =
    record { places = at; buffer = before ++ replicate (length at * 8) 0 ++ behind; start = 3; draws = draws; work = replicate (8 * slot_words) 7 }

-- accepted, with these velocities, visits and draws used
gives : ForceInput → Outcome (Counted Flow) → List Float → ℕ → ℕ → Bool
gives l o vs visits draws =
    let a = force_answer l o in
    is_refusal 0 0 a.refusal
    && eqb a.visits visits
    && eqb a.draws draws
    && equals (buffer_after l o) (before ++ pairs_bytes vs ++ behind)
    && all (eqb 0) (work_after o l.work)

refuses_force : ForceInput → Outcome (Counted Flow) → ℕ → ℕ → ℕ → Bool
refuses_force l o number place w =
    let a = force_answer l o in
    is_refusal number place a.refusal
    && eqb a.visits 0
    && eqb a.draws 0
    && equals (buffer_after l o) l.buffer
    && all (eqb w) (work_after o l.work)

-- Center from rest, accepted
centers : List Float → List Float → Bool
centers from to =
    let ps = resting from in
    let o = center_result 0· 0· 1· ps in
    is_refusal 0 0 (refusal_of o) && same_bits (places_of (particles_after o ps)) to

-- ---- the table

pub record Case : Type 0 where
  pub number : ℕ
  pub holds : Bool

T : ℕ → Bool → Case
T n b = record { number = n; holds = b }

two : List Float
two = 0· ∷ 0· ∷ 1· ∷ 0· ∷ []

-- (0,0) and (2 ^ -k,0)
close : ℕ → List Float
close k = 0· ∷ 0· ∷ tiny k ∷ 0· ∷ []

pub table : List Case
table =
    T 1 (lists (tree 1 []) (0· ∷ 0· ∷ 0· ∷ 0· ∷ []) (0 ∷ 0 ∷ 0 ∷ 0 ∷ []) [] && counts (tree 1 []) 0)
    ∷ T 2 (lists (tree 1 (0· ∷ 0· ∷ 0· ∷ 0· ∷ [])) (0· ∷ 0· ∷ 1· ∷ 1· ∷ []) (0 ∷ 0 ∷ 2 ∷ 2 ∷ []) (0 ∷ 1 ∷ []))
    ∷ T 2 (lists (tree 1 (0· ∷ 0· ∷ −0· ∷ −0· ∷ [])) (0· ∷ 0· ∷ 1· ∷ 1· ∷ []) (0 ∷ 0 ∷ 2 ∷ 2 ∷ []) (0 ∷ 1 ∷ []))
    ∷ T 3 (lists (tree 1 (half (minus 1) ∷ 0· ∷ [])) (minus 1 ∷ 0· ∷ 0· ∷ 1· ∷ []) (0 ∷ 0 ∷ 2 ∷ 1 ∷ []) (0 ∷ []))
    ∷ T 4 (lists (tree 3 (0· ∷ 0· ∷ 1· ∷ 1· ∷ [])) (0· ∷ 0· ∷ 2· ∷ 2· ∷ []) (0 ∷ 0 ∷ 1 ∷ 0 ∷ 1 ∷ 0 ∷ 2 ∷ 1 ∷ 1 ∷ 3 ∷ 2 ∷ 1 ∷ []) (0 ∷ 1 ∷ []))
    ∷ T 5 (lists (tree 5 (0· ∷ 0· ∷ 1· ∷ 1· ∷ minus 1 ∷ 0· ∷ [])) (minus 2 ∷ 0· ∷ 2· ∷ plus 4 ∷ [])
    (0 ∷ 0 ∷ 1 ∷ 0 ∷ 1 ∷ 0 ∷ 2 ∷ 1 ∷ 1 ∷ 1 ∷ 1 ∷ 0 ∷ 2 ∷ 0 ∷ 2 ∷ 1 ∷ 2 ∷ 3 ∷ 2 ∷ 1 ∷ []) (2 ∷ 0 ∷ 1 ∷ []))
    ∷ T 6 (let l = tree 66 (close 64) in counts l 66 && leaves_at 64 (rows_after l (tree_result most_particles l)))
    ∷ T 6 (refuses_tree (tree 65 (close 64)) 7 1 0)
    ∷ T 7 (refuses_tree (tree 66 (close 65)) 6 1 0)
    ∷ T 8 (let l = tree 1 (limit ∷ 0· ∷ []) in is_refusal 0 0 (tree_answer l (tree_result most_particles l)).refusal)
    ∷ T 8 (refuses_tree (tree 1 (float_of 0x4270_0000_0000_0001 ∷ 0· ∷ [])) 4 0 7)
    ∷ T 9 (let l = force (0· ∷ 0· ∷ plus 3 ∷ plus 3 ∷ []) [] in
    gives l (many_body_result l (minus 30 ∷ minus 30 ∷ []) 1·) (minus 5 ∷ minus 5 ∷ plus 5 ∷ plus 5 ∷ []) 6 0)
    ∷ T 10 (let l = force two (0· ∷ []) in gives l (collide_result l (1· ∷ 1· ∷ []) 1· 1) (half (minus 1) ∷ 0· ∷ half 1· ∷ 0· ∷ []) 6 1)
    ∷ T 10 (let l = force two [] in refuses_force l (collide_result l (1· ∷ 1· ∷ []) 1· 1) 8 0 0)
    ∷ T 11 (let l = force (0· ∷ 0· ∷ plus 3 ∷ plus 4 ∷ []) [] in
    gives l (link_result l (0 ∷ 1 ∷ []) [] (0· ∷ []) 1 1·) (half (plus 3) ∷ plus 2 ∷ half (minus 3) ∷ minus 2 ∷ []) 0 0)
    ∷ T 12 (centers (0· ∷ 0· ∷ plus 2 ∷ plus 4 ∷ []) (minus 1 ∷ minus 2 ∷ plus 1 ∷ plus 2 ∷ []))
    ∷ T 12 (centers [] [])
    ∷ T 13 (equals (root_bits (bits_of (half (half 1·))) ∷ root_bits 1 ∷ []) (bits_of (half 1·) ∷ bits_of (tiny 537) ∷ []))
    ∷ []

pub every_case_holds : all (λ c. c.holds) table ≡ true
unfolding opened table T plus minus half −0· tiny equals same_bits is_refusal tree lists counts refuses_tree leaves_at before behind force gives refuses_force centers two close
every_case_holds = refl

-- ---- the lister's sample, no points, and a refusal

sample : List ℕ
sample = sheet_of (resting (0· ∷ 0· ∷ plus 3 ∷ plus 3 ∷ 0· ∷ 0· ∷ []))

pub listings : List Bool
listings =
    equals (lister sample) (ascii "extent 0 0 4 4\n0 0 I\n1 0 L 0 2\n1 3 L 1\n")
    ∷ equals (lister []) (ascii "empty\n")
    ∷ equals (lister (1 ∷ [])) (ascii "refused 10\n")
    ∷ equals (lister (sheet_of (resting (half (minus 1) ∷ 0· ∷ [])))) (ascii "extent -1 0 0 1\n0 0 L 0\n")
    ∷ []

pub every_listing_is_right : all (λ b. b) listings ≡ true
unfolding opened listings sample plus minus half equals
every_listing_is_right = refl

-- ---- lent lengths, which no run beside the Rust can show: 2, after 1 and before 4, with nothing changed

-- the tree of one point, with these numbers of rows, chain places and work words
lengths : ℕ → ℕ → ℕ → Float → TreeInput
lengths rows chains work x = record { sheet = sheet_of (resting (x ∷ 0· ∷ [])); rows = replicate rows 9; chains = replicate chains 9; work = replicate work 7 }

-- a force's velocities that begin at a byte of the buffer
starting_at : ℕ → ForceInput → ForceInput
starting_at start l = record { places = l.places; buffer = l.buffer; start = start; draws = l.draws; work = l.work }

nan· : Float
nan· = float_of 0x7ff8_0000_0000_0000

pub edges : List Bool
edges =
    -- a row too few, a row too many, a chain place too many; words that make no whole slot count for none
    refuses_tree (lengths 0 1 8 0·) 2 0 7
    ∷ refuses_tree (lengths 8 1 8 0·) 2 0 7
    ∷ refuses_tree (lengths 4 2 8 0·) 2 0 7
    ∷ counts (lengths 4 1 15 0·) 1
    -- 2 comes before 4, and no slot at all is 7
    ∷ refuses_tree (lengths 0 1 8 nan·) 2 0 7
    ∷ refuses_tree (lengths 0 1 7 0·) 7 0 0
    -- velocities that reach past the buffer by a byte, and that just fit; half a pair of places; a link end too many
    ∷ (let l = starting_at 5 (force two []) in refuses_force l (many_body_result l (0· ∷ 0· ∷ []) 1·) 2 0 7)
    ∷ (let l = starting_at 4 (force (0· ∷ 0· ∷ 1· ∷ 1· ∷ []) []) in is_refusal 0 0 (refusal_of (many_body_result l (0· ∷ 0· ∷ []) 1·)))
    ∷ (let l = force (0· ∷ 0· ∷ 0· ∷ []) [] in refuses_force l (many_body_result l (0· ∷ []) 1·) 2 0 7)
    ∷ (let l = force two [] in refuses_force l (link_result l (0 ∷ 1 ∷ 1 ∷ []) [] (0· ∷ []) 1 1·) 2 0 7)
    -- link strengths though there are no links, and one strength for two links
    ∷ (let l = force two [] in refuses_force l (link_result l [] (0· ∷ []) [] 1 1·) 2 0 7)
    ∷ (let l = force two [] in refuses_force l (link_result l (0 ∷ 1 ∷ 0 ∷ 1 ∷ []) (0· ∷ []) (0· ∷ 0· ∷ []) 1 1·) 2 0 7)
    ∷ []

pub every_edge_holds : all (λ b. b) edges ≡ true
unfolding opened edges lengths starting_at nan· equals is_refusal tree counts refuses_tree before behind force refuses_force two
every_edge_holds = refl

-- ---- what T1 to T13 leave open: a row for each rule that reads well the other way round

-- lent for points that move
moving : List Float → List Float → List Float → ForceInput
moving at vs draws = record { places = at; buffer = before ++ pairs_bytes vs ++ behind; start = 3; draws = draws; work = replicate (8 * slot_words) 7 }

quarters : ℕ → Float
quarters n = plus n ⊘ plus 4

-- one force slot: kind, iterations, links, strengths, three settings
entry : ℕ → ℕ → ℕ → ℕ → Float → Float → Float → List ℕ
entry kind iterations links strengths a b c = kind ∷ iterations ∷ links ∷ strengths ∷ bits_of a ∷ bits_of b ∷ bits_of c ∷ []

pushing : ℕ → List ℕ
pushing kind = entry kind 1 0 0 1· 0· 0·

centring : Float → Float → Float → List ℕ
centring x y strength = entry 4 0 0 0 x y strength

-- these particles at alpha 1 under these slots, with their numbers and draws
sheet : List Particle → List ℕ → List Float → List Float → SheetInput
sheet ps slots numbers draws =
    record { sheet = sheet_of ps; alpha = bits_of 1·; words = padded 56 0 slots; numbers = numbers; links = []; draws = draws; work = replicate (8 * slot_words) 7 }

-- target 0, and both decays a half
halving : Settings
halving = settings 0· (half 1·) (half 1·)

-- a tick, accepted, with these particles, alpha, visits and draws
ticks_to : SheetInput → List Particle → Float → ℕ → ℕ → Bool
ticks_to l ps alpha visits draws =
    let a = tick_answer l halving in
    is_refusal 0 0 a.refusal
    && eqb a.visits visits
    && eqb a.draws draws
    && equals (sheet_after_tick l halving) (sheet_of ps)
    && eqb (alpha_after_tick l halving) (bits_of alpha)
    && all (eqb 0) (work_after_tick l halving)

-- a tick, refused, with the work slots all holding w
refuses_tick : SheetInput → ℕ → ℕ → ℕ → Bool
refuses_tick l number place w =
    let a = tick_answer l halving in
    is_refusal number place a.refusal
    && eqb a.visits 0
    && eqb a.draws 0
    && equals (sheet_after_tick l halving) l.sheet
    && eqb (alpha_after_tick l halving) l.alpha
    && all (eqb w) (work_after_tick l halving)

-- at most ten ticks while alpha > alpha_min, ended so
steps_to : SheetInput → Float → ℕ → ℕ → Bool → Float → ℕ → ℕ → Bool
steps_to l alpha_min ticks number finished alpha visits draws =
    let a = step_answer l halving alpha_min 10 in
    is_refusal number 0 a.refusal
    && eqb a.ticks ticks
    && eqb a.finished (cond finished 1 0)
    && eqb a.visits visits
    && eqb a.draws draws
    && eqb (alpha_after_step l halving alpha_min 10) (bits_of alpha)

-- the closing move of one particle, called alone
closes : Float → Particle → Particle → Bool
closes decay p q =
    let o = closing_result decay (p ∷ []) in
    is_refusal 0 0 (refusal_of o) && equals (sheet_of (particles_after o (p ∷ []))) (sheet_of (q ∷ []))

-- T9's particles under ManyBody
nine : SheetInput
nine = sheet (resting (0· ∷ 0· ∷ plus 3 ∷ plus 3 ∷ [])) (pushing 1) (minus 30 ∷ minus 30 ∷ []) []

-- one particle at (x,0)
one : Float → ℕ → List Particle
one x flags = particle x 0· 0· 0· flags ∷ []

pub slips : List Bool
slips =
    -- children of strength zero give a NaN centre, and every walk goes on down: three walks over seven nodes
    (let l = force (0· ∷ 0· ∷ 1· ∷ 1· ∷ plus 14 ∷ plus 14 ∷ []) [] in eqb (force_answer l (many_body_result l (0· ∷ 0· ∷ minus 30 ∷ []) 1·)).visits 21)
    -- draws for x, then for y, and both squares in the length: 1 and -1, then 1 and 1
    ∷ (let l = force (0· ∷ 0· ∷ 0· ∷ 0· ∷ []) (1· ∷ minus 1 ∷ 1· ∷ 1· ∷ []) in
    gives l (many_body_result l (minus 4 ∷ minus 4 ∷ []) 1·) (minus 2 ∷ plus 2 ∷ minus 2 ∷ minus 2 ∷ []) 2 4)
    -- Collide: of the own side x, of the other x + vx
    ∷ (let l = moving two (half (half 1·) ∷ 0· ∷ half (minus 1) ∷ 0· ∷ []) (0· ∷ []) in
    gives l (collide_result l (1· ∷ 1· ∷ []) 1· 1) (half (minus 1) ∷ 0· ∷ half (half 1·) ∷ 0· ∷ []) 6 1)
    -- of radii 2 and 1 the first moves by a fifth, the second by the rest
    ∷ (let l = force two (0· ∷ []) in
    let fifth = 1· ⊘ plus 5 in
    gives l (collide_result l (2· ∷ 1· ∷ []) 1· 1) (minus 2 ⊗ fifth ∷ 0· ∷ 2· ⊗ (1· ⊖ fifth) ∷ 0· ∷ []) 6 1)
    -- a leaf's radius is its first member's, not the greatest
    ∷ (let l = force (0· ∷ 0· ∷ 1· ∷ 0· ∷ 1· ∷ 0· ∷ []) [] in
    gives l (collide_result l (half 1· ∷ half (half 1·) ∷ 2· ∷ []) 1· 1) (0· ∷ 0· ∷ 0· ∷ 0· ∷ 0· ∷ 0· ∷ []) 9 0)
    -- a self-link counts twice and pulls nothing; the bias is 3/4, the default strength 1 over the lesser count
    ∷ (let l = force (0· ∷ 0· ∷ plus 3 ∷ plus 4 ∷ []) [] in
    gives l (link_result l (0 ∷ 0 ∷ 0 ∷ 1 ∷ []) [] (0· ∷ 0· ∷ []) 1 1·) (quarters 3 ∷ 1· ∷ neg (quarters 9) ∷ minus 3 ∷ []) 0 0)
    -- the same link twice: the second time it sees what it did the first time
    ∷ (let l = force (0· ∷ 0· ∷ plus 3 ∷ plus 4 ∷ []) [] in
    gives l (link_result l (0 ∷ 1 ∷ 0 ∷ 1 ∷ []) [] (0· ∷ 0· ∷ []) 1 1·) (half (quarters 9) ∷ quarters 6 ∷ neg (half (quarters 9)) ∷ neg (quarters 6) ∷ []) 0 0)
    -- flag 2 holds x too, and no flag holds y
    ∷ closes (half 1·) (particle 0· 0· 1· 1· 2) (particle 0· 1· 0· (half 1·) 2)
    -- the place gains the clamped velocity, the velocity itself decays
    ∷ closes 1· (particle 0· 0· (plus (2 ^ 32)) 0· 0) (particle (plus 2147483647) 0· (plus (2 ^ 32)) 0· 0)
    -- a tick: alpha first, so that the forces run at a half
    ∷ ticks_to nine (particle (half (minus 5)) (half (minus 5)) (neg (quarters 5)) (neg (quarters 5)) 0 ∷ particle (half (plus 11)) (half (plus 11)) (quarters 5) (quarters 5) 0 ∷ []) (half 1·) 6 0
    -- slots in ascending number
    ∷ ticks_to (sheet (one 0· 0) (centring (plus 4) 0· 1· ++ centring 0· 0· (half 1·)) [] []) (one 2· 0) (half 1·) 0 0
    -- 9 after each force, though the next would bring the particle back
    ∷ refuses_tick (sheet (one 0· 0) (centring limit 0· 2· ++ centring 0· 0· 1·) [] []) 9 0 0
    -- a held axis returns to its value at tick entry
    ∷ ticks_to (sheet (one 2· 1) (centring 0· 0· 1·) [] []) (one 2· 1) (half 1·) 0 0
    -- three ticks bring alpha from 1 to an eighth; visits add up
    ∷ steps_to nine (1· ⊘ plus 5) 3 0 true (1· ⊘ plus 8) 18 0
    -- alpha at alpha_min ends a step before its first tick
    ∷ steps_to nine 1· 0 0 true 1· 0 0
    -- one list of draws across ticks: the second tick finds none left, and the first stands
    ∷ steps_to (sheet (resting (0· ∷ 0· ∷ 0· ∷ 0· ∷ [])) (pushing 1) (0· ∷ 0· ∷ []) (1· ∷ 1· ∷ 1· ∷ 1· ∷ [])) 0· 1 8 false (half 1·) 2 4
    -- a flag before a coordinate before a velocity, the first bad record first; then a slot's numbers, then draws
    ∷ refuses_tick (sheet (particle nan· 0· 0· 0· 4 ∷ []) [] [] []) 10 0 7
    ∷ refuses_tick (sheet (particle 0· 0· nan· 0· 0 ∷ particle nan· 0· 0· 0· 0 ∷ []) (pushing 1) (0· ∷ nan· ∷ []) (2· ∷ [])) 5 0 7
    ∷ refuses_tick (sheet (resting two) (pushing 1) (0· ∷ nan· ∷ []) (2· ∷ [])) 5 1 7
    ∷ refuses_tick (sheet (resting two) (pushing 5) [] (2· ∷ [])) 5 0 7
    ∷ []

pub every_slip_shows : all (λ b. b) slips ≡ true
unfolding opened slips moving entry pushing centring sheet halving ticks_to refuses_tick steps_to nine one closes quarters plus minus half equals is_refusal force gives before behind two nan·
every_slip_shows = refl

-- ---- the limits: one over is refused by 1; what is just at them is accepted there, so that a later refusal shows, as a sheet that is right in all else would be large to compute

-- these bytes under these slots, with these numbers
lent : List ℕ → List ℕ → List Float → SheetInput
lent bytes slots numbers =
    record { sheet = bytes; alpha = bits_of 1·; words = padded 56 0 slots; numbers = numbers; links = []; draws = []; work = replicate slot_words 7 }

-- a force on so many particles, with no velocities
crowd : ℕ → ForceInput
crowd n = record { places = replicate (n * 2) 0·; buffer = []; start = 0; draws = []; work = replicate slot_words 7 }

-- so many particles with an unknown flag, moved alone
flagged : ℕ → Refusal
flagged n = refusal_of (closing_result 1· (replicate n (particle 0· 0· 0· 0· 4)))

-- one point, and a byte more
oddly : TreeInput
oddly = record { sheet = sheet_of (resting (0· ∷ 0· ∷ [])) ++ (0 ∷ []); rows = replicate row_numbers 9; chains = 9 ∷ []; work = replicate slot_words 7 }

-- a sheet of so many records, each with flags that there are not
records : ℕ → List ℕ
records n = replicate (n * record_size) 9

tree_refusal : ℕ → TreeInput → Refusal
tree_refusal most l = (tree_answer l (tree_result most l)).refusal

pub limits : List Bool
limits =
    -- particles: of a force, of a list, of a tick, of the lister
    (let l = crowd 4096 in refuses_force l (many_body_result l [] 1·) 2 0 7)
    ∷ (let l = crowd 4097 in refuses_force l (many_body_result l [] 1·) 1 0 7)
    ∷ is_refusal 10 0 (flagged 4096)
    ∷ is_refusal 1 0 (flagged 4097)
    ∷ is_refusal 10 0 (tick_answer (lent (records 4096) [] []) halving).refusal
    ∷ is_refusal 1 0 (tick_answer (lent (records 4097) [] []) halving).refusal
    ∷ equals (lister (records 512)) (ascii "refused 10\n")
    ∷ equals (lister (records 513)) (ascii "refused 1\n")
    -- links: of Link, and of a slot
    ∷ (let l = force two [] in refuses_force l (link_result l (replicate 16384 0) [] [] 1 1·) 2 0 7)
    ∷ (let l = force two [] in refuses_force l (link_result l (replicate 16386 0) [] [] 1 1·) 1 0 7)
    ∷ refuses_tick (lent [] (entry 3 0 8192 0 1· 0· 0·) []) 2 0 7
    ∷ refuses_tick (lent [] (entry 3 0 8193 0 1· 0· 0·) []) 1 0 7
    -- iterations: those of Collide and Link alone are looked at
    ∷ refuses_tick (lent [] (entry 2 65 0 0 1· 0· 0·) []) 1 0 7
    ∷ is_refusal 0 0 (tick_answer (lent [] (entry 1 65 0 0 1· 0· 0· ++ entry 4 65 0 0 0· 0· 0·) []) halving).refusal
    -- nor are links, link strengths and settings of a kind that has none
    ∷ is_refusal 0 0 (tick_answer (lent [] (entry 0 65 8193 1 nan· nan· nan· ++ entry 1 65 8193 1 nan· nan· nan· ++ entry 2 64 8193 1 1· nan· nan· ++ entry 3 64 0 0 nan· nan· nan·) []) halving).refusal
    ∷ is_refusal 0 0 (tick_answer (lent [] (entry 4 65 8193 1 0· 0· 0·) []) halving).refusal
    -- 10 for a length comes before 1, and 1 before 2
    ∷ is_refusal 10 0 (tree_refusal 0 oddly)
    ∷ is_refusal 1 0 (tree_refusal 0 (lengths 0 1 8 0·))
    ∷ is_refusal 10 0 (step_answer (lent (1 ∷ []) [] []) halving 0· 4097).refusal
    ∷ refuses_tick (lent (1 ∷ []) [] []) 10 0 7
    -- a link that the list of ends lacks
    ∷ refuses_tick (lent [] (entry 3 1 1 0 1· 0· 0·) (0· ∷ [])) 2 0 7
    ∷ []

pub every_limit_holds : all (λ b. b) limits ≡ true
unfolding opened limits lent crowd flagged oddly records tree_refusal lengths nan· entry halving half refuses_tick equals is_refusal force before behind refuses_force two
every_limit_holds = refl

-- ---- outlines, of document 02, R-10: the output holds 9 before the call

east : ℕ → ℤ
east n = pos n

west : ℕ → ℤ
west n = neg_ℤ (pos n)

halfway : ℕ
halfway = 1800000000

equals_z : List ℤ → List ℤ → Bool
equals_z [] [] = true
equals_z [] (b ∷ bs) = false
equals_z (a ∷ l) [] = false
equals_z (a ∷ l) (b ∷ bs) = le_z a b && le_z b a && equals_z l bs

-- these corners round a centre, with room for so many numbers
round : ℕ → ℤ → List ℤ → OutlineInput
round room centre l = record { corners = l; centre = centre; unwrapped = replicate room (pos 9) }

-- accepted, with these numbers, and so many places behind them as they were
unwraps_before : ℕ → ℤ → List ℤ → List ℤ → Bool
unwraps_before rest centre l us =
    let o = round (length l + rest) centre l in
    is_refusal 0 0 (outline_answer o) && equals_z (unwrapped_after o) (us ++ replicate rest (pos 9))

unwraps : ℤ → List ℤ → List ℤ → Bool
unwraps centre l us = unwraps_before 2 centre l us

-- refused, with nothing written
refuses_outline : OutlineInput → ℕ → ℕ → Bool
refuses_outline o number place = is_refusal number place (outline_answer o) && equals_z (unwrapped_after o) o.unwrapped

-- a box from 170 degrees east to 170 west
box : List ℤ
box = east 1700000000 ∷ west 1700000000 ∷ west 1700000000 ∷ east 1700000000 ∷ []

-- the same from its other side on
box_from_west : List ℤ
box_from_west = west 1700000000 ∷ east 1700000000 ∷ east 1700000000 ∷ west 1700000000 ∷ []

-- three corners round a pole, by steps of 120 degrees east, and by steps west
polar : List ℤ
polar = west 1200000000 ∷ east 0 ∷ east 1200000000 ∷ []

polar_west : List ℤ
polar_west = east 1200000000 ∷ east 0 ∷ west 1200000000 ∷ []

-- so many numbers, each 120 degrees from the one before
up_from : ℕ → ℤ → List ℤ
up_from zero z = []
up_from (suc n) z = z ∷ up_from n (z +ℤ pos 1200000000)

down_from : ℕ → ℤ → List ℤ
down_from zero z = []
down_from (suc n) z = z ∷ down_from n (z -ℤ pos 1200000000)

-- one unit too far
too_far : ℤ
too_far = east 1800000001

pub outlines : List Bool
outlines =
    -- no corners, with no room and with more than corners may be
    unwraps (east 0) [] []
    ∷ unwraps_before 0 (east 0) [] []
    ∷ unwraps_before 4098 (east 0) [] []
    -- one corner on either seam, seen from 0 and from either seam
    ∷ unwraps (east 0) (east halfway ∷ []) (west halfway ∷ [])
    ∷ unwraps (east 0) (west halfway ∷ []) (west halfway ∷ [])
    ∷ unwraps (east halfway) (east halfway ∷ []) (east halfway ∷ [])
    ∷ unwraps (east halfway) (west halfway ∷ []) (east halfway ∷ [])
    ∷ unwraps (west halfway) (east halfway ∷ []) (west halfway ∷ [])
    ∷ unwraps (west halfway) (west halfway ∷ []) (west halfway ∷ [])
    -- both seams in one outline
    ∷ unwraps (east 0) (east halfway ∷ west halfway ∷ []) (west halfway ∷ west halfway ∷ [])
    -- a box across 180 degrees from the same three centres, in an output that just holds it
    ∷ unwraps (east 0) box (east 1700000000 ∷ east 1900000000 ∷ east 1900000000 ∷ east 1700000000 ∷ [])
    ∷ unwraps_before 0 (east halfway) box (east 1700000000 ∷ east 1900000000 ∷ east 1900000000 ∷ east 1700000000 ∷ [])
    ∷ unwraps (west halfway) box (west 1900000000 ∷ west 1700000000 ∷ west 1700000000 ∷ west 1900000000 ∷ [])
    ∷ unwraps (east 0) box_from_west (west 1700000000 ∷ west 1900000000 ∷ west 1900000000 ∷ west 1700000000 ∷ [])
    -- half a turn goes west, from either side; one unit less goes east
    ∷ unwraps (east 0) (east 0 ∷ east halfway ∷ west 900000000 ∷ []) (east 0 ∷ west halfway ∷ west 900000000 ∷ [])
    ∷ unwraps (east 0) (east 0 ∷ west halfway ∷ west 900000000 ∷ []) (east 0 ∷ west halfway ∷ west 900000000 ∷ [])
    ∷ unwraps (east 0) (east halfway ∷ east 0 ∷ east 900000000 ∷ []) (west 1800000000 ∷ west 3600000000 ∷ west 2700000000 ∷ [])
    ∷ unwraps (east 0) (east 0 ∷ east 1799999999 ∷ east 900000000 ∷ []) (east 0 ∷ east 1799999999 ∷ east 900000000 ∷ [])
    -- half a turn from the centre is west of it, one unit less is east
    ∷ unwraps (east 900000000) (west 900000000 ∷ []) (west 900000000 ∷ [])
    ∷ unwraps (west 900000000) (east 900000000 ∷ []) (west 2700000000 ∷ [])
    ∷ unwraps (east 0) (east 1799999999 ∷ []) (east 1799999999 ∷ [])
    -- so does the closing step: half a turn west closes, half a turn east doesn't
    ∷ unwraps (east 0) (east 0 ∷ east 900000000 ∷ east halfway ∷ []) (east 0 ∷ east 900000000 ∷ east halfway ∷ [])
    ∷ refuses_outline (round 3 (east 0) (east 0 ∷ west 900000000 ∷ west halfway ∷ [])) 16 0
    -- from a turn away straight back over half a turn
    ∷ unwraps (east 0) (east 0 ∷ east 1200000000 ∷ west 1200000000 ∷ east 0 ∷ west halfway ∷ east 900000000 ∷ []) (up_from 4 (east 0) ++ east 1800000000 ∷ east 900000000 ∷ [])
    -- three turns east and back, three turns west and back
    ∷ unwraps (east 0) (polar ++ polar ++ polar ++ west 1200000000 ∷ polar_west ++ polar_west ++ east 1200000000 ∷ east 0 ∷ []) (up_from 10 (west 1200000000) ++ down_from 8 (east 8400000000))
    ∷ unwraps (east 0) (polar_west ++ polar_west ++ polar_west ++ east 1200000000 ∷ polar ++ polar ++ west 1200000000 ∷ east 0 ∷ []) (down_from 10 (east 1200000000) ++ up_from 8 (west 8400000000))
    -- 16: round a pole either way, from another centre, and where both ways end on the same side of 0 or as far from it; 0 and half a turn alone, as both steps go west
    ∷ refuses_outline (round 3 (east 0) polar) 16 0
    ∷ refuses_outline (round 3 (east 0) polar_west) 16 0
    ∷ refuses_outline (round 3 (east halfway) polar) 16 0
    ∷ refuses_outline (round 3 (west halfway) polar_west) 16 0
    ∷ refuses_outline (round 3 (east 0) (west halfway ∷ west 600000000 ∷ east 600000000 ∷ [])) 16 0
    ∷ refuses_outline (round 3 (east halfway) (east halfway ∷ east 600000000 ∷ west 600000000 ∷ [])) 16 0
    ∷ refuses_outline (round 2 (east 0) (east 0 ∷ east halfway ∷ [])) 16 0
    -- 5: a corner or the centre by one unit on either side, and by as much as there is; the first such corner; no corners, and the centre all the same
    ∷ refuses_outline (round 1 (east 0) (too_far ∷ [])) 5 0
    ∷ refuses_outline (round 2 (east 0) (east 0 ∷ west 1800000001 ∷ [])) 5 1
    ∷ refuses_outline (round 2 (east 0) (east 0 ∷ east (2 ^ 63 - 1) ∷ [])) 5 1
    ∷ refuses_outline (round 2 (east 0) (east 0 ∷ west (2 ^ 63) ∷ [])) 5 1
    ∷ refuses_outline (round 3 (east 0) (east 0 ∷ too_far ∷ too_far ∷ [])) 5 1
    ∷ refuses_outline (round 1 too_far (east 0 ∷ [])) 5 0
    ∷ refuses_outline (round 1 (west 1800000001) (east 0 ∷ [])) 5 0
    ∷ refuses_outline (round 0 too_far []) 5 0
    -- 2: no room for the last
    ∷ refuses_outline (round 3 (east 0) box) 2 0
    -- 1: one corner too many; as many as may be, where 2 shows
    ∷ refuses_outline (round 4097 (east 0) (replicate 4097 (east 0))) 1 0
    ∷ refuses_outline (round 4095 (east 0) (replicate 4096 (east 0))) 2 0
    -- 1 before 2, 5 and 16
    ∷ refuses_outline (round 0 (east 0) (replicate 4097 (east 0))) 1 0
    ∷ refuses_outline (round 4097 (east 0) (replicate 4097 too_far)) 1 0
    ∷ refuses_outline (round 4097 too_far (replicate 4097 (east 0))) 1 0
    ∷ refuses_outline (round 4097 (east 0) (replicate 4094 (west 1200000000) ++ polar)) 1 0
    -- 2 before 5 and 16
    ∷ refuses_outline (round 0 (east 0) (too_far ∷ [])) 2 0
    ∷ refuses_outline (round 0 too_far (east 0 ∷ [])) 2 0
    ∷ refuses_outline (round 2 (east 0) polar) 2 0
    -- a corner's 5 before the centre's and 16, the centre's before 16
    ∷ refuses_outline (round 2 too_far (east 0 ∷ too_far ∷ [])) 5 1
    ∷ refuses_outline (round 4 (east 0) (polar ++ too_far ∷ [])) 5 3
    ∷ refuses_outline (round 3 too_far polar) 5 0
    ∷ []

pub every_outline_holds : all (λ b. b) outlines ≡ true
unfolding opened outlines east west halfway equals_z round unwraps_before unwraps refuses_outline box box_from_west polar polar_west up_from down_from too_far is_refusal
every_outline_holds = refl

-- ---- edits, of document 02, R-9: every lent list holds 9 or 7 before the call

-- in at a point
on : Float → Float → List ℕ
on x y = 0 ∷ bits_of x ∷ bits_of y ∷ []

-- out by number; the third word isn't looked at
off : ℕ → List ℕ
off i = 1 ∷ i ∷ 7 ∷ []

-- of a kind that there is not
odd : List ℕ
odd = 2 ∷ 0 ∷ 0 ∷ []

join_all : List (List ℕ) → List ℕ
join_all [] = []
join_all (l ∷ ls) = l ++ join_all ls

-- lent for these edits, with this many slots
editing : ℕ → List (List ℕ) → EditsInput
editing slots es =
    let words = join_all es in
    record { edits = words; rows = replicate (slots * row_numbers) 9; chains = replicate (insertions (edits_of words)) 9; work = replicate (slots * slot_words + 1) 7 }

-- the same with other lengths
lending : ℕ → ℕ → EditsInput → EditsInput
lending rows chains l = record { edits = l.edits; rows = replicate rows 9; chains = replicate chains 9; work = l.work }

-- accepted, with these ends, this many nodes, these rows and chains, and every work slot zero
edits : EditsInput → List Float → ℕ → List ℕ → List ℕ → Bool
edits l ends n rows chains =
    let a = edits_answer l in
    let e = a.extent in
    is_refusal 0 0 a.refusal
    && eqb a.nodes n
    && same_bits (e.x0 ∷ e.y0 ∷ e.x1 ∷ e.y1 ∷ []) ends
    && equals (edit_rows_after l) rows
    && equals (edit_chains_after l) chains
    && equals (edit_work_after l) (replicate (length l.work) 0)

nought : List Float
nought = 0· ∷ 0· ∷ 0· ∷ 0· ∷ []

-- refused, with both lists unchanged, no nodes, no extent, and the work slots all holding w
refuses_edits : EditsInput → ℕ → ℕ → ℕ → Bool
refuses_edits l number place w =
    let a = edits_answer l in
    let e = a.extent in
    is_refusal number place a.refusal
    && eqb a.nodes 0
    && same_bits (e.x0 ∷ e.y0 ∷ e.x1 ∷ e.y1 ∷ []) nought
    && equals (edit_rows_after l) l.rows
    && equals (edit_chains_after l) l.chains
    && equals (edit_work_after l) (replicate (length l.work) w)

-- 2 ^ 41
beyond : Float
beyond = limit ⊗ 2·

-- from 0 to 1, and from 0 to 8
unit : List Float
unit = 0· ∷ 0· ∷ 1· ∷ 1· ∷ []

eight : List Float
eight = 0· ∷ 0· ∷ plus 8 ∷ plus 8 ∷ []

origin : List ℕ
origin = on 0· 0·

quarter· : Float
quarter· = tiny 2

eighth : Float
eighth = tiny 3

three_quarters : Float
three_quarters = 1· ⊖ tiny 2

-- an internal node of a level, in a quadrant, and a leaf with that many
inner : ℕ → ℕ → List ℕ
inner l q = l ∷ q ∷ 1 ∷ 0 ∷ []

tip : ℕ → ℕ → ℕ → List ℕ
tip l q n = l ∷ q ∷ 2 ∷ n ∷ []

pub lapses : List Bool
lapses =
    -- none
    edits (editing 0 []) nought 0 [] []
    ∷ edits (editing 2 []) nought 0 (replicate 8 0) []
    -- one in; in and out: its extent stays
    ∷ edits (editing 1 (on (plus 2 ⊖ half 1·) (minus 3) ∷ [])) (1· ∷ minus 3 ∷ 2· ∷ minus 2 ∷ []) 1 (tip 0 0 1) (0 ∷ [])
    ∷ edits (editing 1 (on (plus 2 ⊖ half 1·) (minus 3) ∷ off 0 ∷ [])) (1· ∷ minus 3 ∷ 2· ∷ minus 2 ∷ []) 0 (replicate 4 0) (0 ∷ [])
    -- the extent never shrinks, and a leaf comes into it when none remains
    ∷ edits (editing 3 (origin ∷ on (plus 5) (plus 5) ∷ off 1 ∷ [])) eight 1 (tip 0 0 1 ++ replicate 8 0) (0 ∷ 0 ∷ [])
    ∷ edits (editing 3 (origin ∷ on (plus 5) (plus 5) ∷ off 1 ∷ off 0 ∷ [])) eight 0 (replicate 12 0) (0 ∷ 0 ∷ [])
    ∷ edits (editing 3 (origin ∷ on (plus 5) (plus 5) ∷ off 0 ∷ off 1 ∷ on 1· 1· ∷ [])) eight 1 (tip 0 0 1 ++ replicate 8 0) (2 ∷ 0 ∷ 0 ∷ [])
    -- it holds a later point as covering all in order does, not as covering those that are left would
    ∷ edits (editing 3 (origin ∷ on (minus 1) 0· ∷ off 0 ∷ off 1 ∷ on 0· 2· ∷ [])) (minus 1 ∷ 0· ∷ plus 3 ∷ plus 4 ∷ []) 1 (tip 0 0 1 ++ replicate 8 0) (2 ∷ 0 ∷ 0 ∷ [])
    -- the first of two coincident labels goes: the other is then the first of the chain, whose bits are the leaf's; or the second goes, or the middle one of three
    ∷ edits (editing 1 (origin ∷ on −0· −0· ∷ off 0 ∷ [])) unit 1 (tip 0 0 1) (1 ∷ 0 ∷ [])
    ∷ edits (editing 1 (origin ∷ on −0· −0· ∷ off 1 ∷ [])) unit 1 (tip 0 0 1) (0 ∷ 0 ∷ [])
    ∷ edits (editing 1 (origin ∷ origin ∷ origin ∷ off 1 ∷ [])) unit 1 (tip 0 0 2) (0 ∷ 2 ∷ 0 ∷ [])
    ∷ edits (editing 1 (origin ∷ origin ∷ off 1 ∷ origin ∷ off 0 ∷ [])) unit 1 (tip 0 0 1) (2 ∷ 0 ∷ 0 ∷ [])
    -- leaves up three levels, to the root or short of it
    ∷ edits (editing 5 (origin ∷ on eighth 0· ∷ [])) unit 5 (inner 0 0 ++ inner 1 0 ++ inner 2 0 ++ tip 3 0 1 ++ tip 3 1 1) (0 ∷ 1 ∷ [])
    ∷ edits (editing 5 (origin ∷ on eighth 0· ∷ off 1 ∷ [])) unit 1 (tip 0 0 1 ++ replicate 16 0) (0 ∷ 0 ∷ [])
    ∷ edits (editing 5 (origin ∷ on eighth 0· ∷ off 0 ∷ [])) unit 1 (tip 0 0 1 ++ replicate 16 0) (1 ∷ 0 ∷ [])
    ∷ edits (editing 7 (origin ∷ on (tiny 4) 0· ∷ on three_quarters three_quarters ∷ off 1 ∷ [])) unit 3 (inner 0 0 ++ tip 1 0 1 ++ tip 1 3 1 ++ replicate 16 0) (0 ∷ 2 ∷ 0 ∷ [])
    -- one internal child alone: it stays internal
    ∷ edits (editing 5 (origin ∷ on quarter· 0· ∷ on three_quarters three_quarters ∷ off 2 ∷ [])) unit 4 (inner 0 0 ++ inner 1 0 ++ tip 2 0 1 ++ tip 2 1 1 ++ replicate 4 0) (0 ∷ 1 ∷ 0 ∷ [])
    -- and two leaves left of three stay under their node
    ∷ edits (editing 4 (origin ∷ on (half 1·) 0· ∷ on 0· (half 1·) ∷ off 0 ∷ [])) unit 3 (inner 0 0 ++ tip 1 1 1 ++ tip 1 2 1 ++ replicate 4 0) (1 ∷ 2 ∷ 0 ∷ [])
    -- a slot freed and used again: as many slots as the largest tree do, one fewer is 7 at its edit
    ∷ edits (editing 5 (origin ∷ on (half 1·) 0· ∷ off 1 ∷ on eighth 0· ∷ [])) unit 5 (inner 0 0 ++ inner 1 0 ++ inner 2 0 ++ tip 3 0 1 ++ tip 3 1 1) (0 ∷ 2 ∷ 0 ∷ [])
    ∷ refuses_edits (editing 4 (origin ∷ on (half 1·) 0· ∷ off 1 ∷ on eighth 0· ∷ [])) 7 3 0
    ∷ edits (editing 3 (origin ∷ on (half 1·) 0· ∷ off 0 ∷ origin ∷ off 1 ∷ on 0· (half 1·) ∷ [])) unit 3 (inner 0 0 ++ tip 1 0 1 ++ tip 1 2 1) (2 ∷ 3 ∷ 0 ∷ 0 ∷ [])
    ∷ refuses_edits (editing 2 (origin ∷ on (half 1·) 0· ∷ off 0 ∷ origin ∷ off 1 ∷ on 0· (half 1·) ∷ [])) 7 1 0
    ∷ refuses_edits (editing 0 (origin ∷ off 0 ∷ [])) 7 0 0
    -- 15: not inserted yet, removed twice, no number that there could be
    ∷ refuses_edits (editing 1 (off 0 ∷ [])) 15 0 0
    ∷ refuses_edits (editing 1 (off 0 ∷ origin ∷ [])) 15 0 0
    ∷ refuses_edits (editing 1 (origin ∷ off 1 ∷ origin ∷ [])) 15 1 0
    ∷ refuses_edits (editing 1 (origin ∷ off 0 ∷ off 0 ∷ [])) 15 2 0
    ∷ refuses_edits (editing 1 (origin ∷ off 0 ∷ origin ∷ off 0 ∷ [])) 15 3 0
    ∷ refuses_edits (editing 1 (origin ∷ off (2 ^ 64 - 1) ∷ [])) 15 1 0
    ∷ refuses_edits (editing 1 (origin ∷ off (2 ^ 32) ∷ [])) 15 1 0
    -- numbers count insertions, not edits
    ∷ edits (editing 1 (origin ∷ off 0 ∷ origin ∷ off 1 ∷ [])) unit 0 (replicate 4 0) (0 ∷ 0 ∷ [])
    ∷ refuses_edits (editing 1 (origin ∷ off 0 ∷ origin ∷ off 2 ∷ [])) 15 3 0
    -- whichever comes first of 7 and 15, and of 6 and 15
    ∷ refuses_edits (editing 1 (origin ∷ on (half 1·) 0· ∷ off 5 ∷ [])) 7 1 0
    ∷ refuses_edits (editing 1 (origin ∷ off 5 ∷ on (half 1·) 0· ∷ [])) 15 1 0
    ∷ refuses_edits (editing 99 (origin ∷ on (tiny 65) 0· ∷ off 5 ∷ [])) 6 1 0
    ∷ refuses_edits (editing 99 (origin ∷ off 5 ∷ on (tiny 65) 0· ∷ [])) 15 1 0
    -- 6 at an insertion, also one that widens the extent, after removals; none where what was deep is gone
    ∷ refuses_edits (editing 99 (origin ∷ on (tiny 65) 0· ∷ [])) 6 1 0
    ∷ refuses_edits (editing 99 (origin ∷ on three_quarters 0· ∷ on (tiny 62) 0· ∷ off 1 ∷ on (plus 7) (plus 7) ∷ [])) 6 4 0
    ∷ edits (editing 66 (origin ∷ on (tiny 64) 0· ∷ off 0 ∷ on eighth 0· ∷ off 1 ∷ on (plus 7) (plus 7) ∷ [])) eight 3 (inner 0 0 ++ tip 1 0 1 ++ tip 1 3 1 ++ replicate 252 0) (2 ∷ 3 ∷ 0 ∷ 0 ∷ [])
    ∷ edits (editing 66 (origin ∷ on (tiny 64) 0· ∷ off 1 ∷ on (half 1·) 0· ∷ on (plus 7) (plus 7) ∷ [])) eight 7
    (inner 0 0 ++ inner 1 0 ++ inner 2 0 ++ inner 3 0 ++ tip 4 0 1 ++ tip 4 1 1 ++ tip 1 3 1 ++ replicate 236 0) (0 ∷ 2 ∷ 3 ∷ 0 ∷ [])
    -- 6 if both
    ∷ refuses_edits (editing 1 (origin ∷ on (tiny 65) 0· ∷ [])) 6 1 0
    -- 1 before 2; 4,096 edits are let through (so many that are all made are too many to compute here: host/tests/edits.rs and beside/second make them)
    ∷ refuses_edits (editing 1 (map off (replicate 4096 0))) 15 0 0
    ∷ refuses_edits (editing 1 (map off (replicate 4097 0))) 1 0 7
    ∷ refuses_edits (lending 3 3 (editing 1 (map off (replicate 4097 0)))) 1 0 7
    ∷ refuses_edits (editing 1 (map off (replicate 4096 0) ++ (1 ∷ []) ∷ [])) 2 0 7
    ∷ refuses_edits (editing 1 (map off (replicate 4096 0) ++ (1 ∷ 0 ∷ []) ∷ [])) 2 0 7
    -- 2 before 4: a rest of words, either list
    ∷ refuses_edits (editing 1 ((0 ∷ []) ∷ [])) 2 0 7
    ∷ refuses_edits (editing 1 (on beyond 0· ∷ (0 ∷ 0 ∷ []) ∷ [])) 2 0 7
    ∷ refuses_edits (lending 3 1 (editing 1 (on beyond 0· ∷ []))) 2 0 7
    ∷ refuses_edits (lending 5 1 (editing 1 (origin ∷ []))) 2 0 7
    ∷ refuses_edits (lending 4 0 (editing 1 (origin ∷ []))) 2 0 7
    ∷ refuses_edits (lending 4 2 (editing 1 (origin ∷ off 0 ∷ []))) 2 0 7
    -- 4 at the first bad insertion, before 5 at the first unknown kind, before 15 and 7; a removal's words are no coordinates
    ∷ refuses_edits (editing 0 (odd ∷ off 0 ∷ origin ∷ on 0· beyond ∷ on beyond 0· ∷ [])) 4 3 7
    ∷ refuses_edits (editing 0 (off 0 ∷ origin ∷ odd ∷ odd ∷ [])) 5 2 7
    ∷ refuses_edits (editing 2 (origin ∷ odd ∷ [])) 5 1 7
    ∷ refuses_edits (editing 0 (((2 ^ 64 - 1) ∷ 0 ∷ 0 ∷ []) ∷ [])) 5 0 7
    ∷ refuses_edits (editing 1 ((0 ∷ (2 ^ 64 - 1) ∷ 0 ∷ []) ∷ [])) 4 0 7
    ∷ edits (editing 1 (origin ∷ (1 ∷ 0 ∷ (2 ^ 64 - 1) ∷ []) ∷ [])) unit 0 (replicate 4 0) (0 ∷ [])
    -- nor are those of an unknown kind, which has no place in the chains either
    ∷ refuses_edits (lending 4 1 (editing 1 (origin ∷ (2 ∷ (2 ^ 64 - 1) ∷ (2 ^ 64 - 1) ∷ []) ∷ []))) 5 1 7
    ∷ refuses_edits (lending 4 2 (editing 1 (origin ∷ odd ∷ []))) 2 0 7
    -- the farthest point
    ∷ edits (editing 1 (on limit (neg limit) ∷ [])) (limit ∷ neg limit ∷ (limit ⊖ minus 1) ∷ minus (2 ^ 40 - 1) ∷ []) 1 (tip 0 0 1) (0 ∷ [])
    ∷ []

pub every_lapse_holds : all (λ b. b) lapses ≡ true
unfolding opened lapses on off odd join_all editing lending edits refuses_edits nought beyond unit eight origin quarter· eighth three_quarters inner tip plus minus half −0· tiny equals same_bits is_refusal
every_lapse_holds = refl

-- ---- sheets written and read: every byte of an output is 9 before the call, and every particle of a list is `other`

origin· : Particle
origin· = particle 0· 0· 0· 0· 0

other : Particle
other = particle (plus 7) (minus 7) 1· (minus 1) 1

-- a label, and its record written out: x 1, y 1/2, vx -2, vy -0, both flags
label : Particle
label = particle 1· (half 1·) (minus 2) −0· 3

label_bytes : List ℕ
label_bytes =
    replicate 6 0
    ++ (240 ∷ 63 ∷ [])
    ++ replicate 6 0
    ++ (224 ∷ 63 ∷ [])
    ++ replicate 7 0
    ++ (192 ∷ [])
    ++ replicate 7 0
    ++ (128 ∷ 3 ∷ [])
    ++ replicate 7 0

-- the farthest, the fastest and the least
edge : Particle
edge = particle limit (neg limit) (float_of 0x7fef_ffff_ffff_ffff) (float_of 1) 2

infinite· : Float
infinite· = float_of 0x7ff0_0000_0000_0000

-- with an unknown flag, a bad coordinate, a bad velocity
bad_flag : Particle → Particle
bad_flag p = particle p.x p.y p.vx p.vy 4

bad_place : Particle → Particle
bad_place p = particle p.x nan· p.vx p.vy p.flags

bad_speed : Particle → Particle
bad_speed p = particle p.x p.y infinite· p.vy p.flags

-- lent to the writer, and to the reader
writing : List Particle → ℕ → RecordsInput
writing ps bytes = record { particles = ps; sheet = replicate bytes 9 }

reading : List ℕ → ℕ → RecordsInput
reading sheet n = record { particles = replicate n other; sheet = sheet }

-- accepted: these bytes, and the rest as it was
writes : RecordsInput → List ℕ → Bool
writes l bytes = is_refusal 0 0 (write_answer l) && equals (sheet_after_write l) (bytes ++ replicate (length l.sheet - length bytes) 9)

refuses_write : RecordsInput → ℕ → ℕ → Bool
refuses_write l number place = is_refusal number place (write_answer l) && equals (sheet_after_write l) l.sheet

same_particles : List Particle → List Particle → Bool
same_particles ps qs = same_bits (places_of ps) (places_of qs) && same_bits (speeds_of ps) (speeds_of qs) && equals (map (λ p. p.flags) ps) (map (λ p. p.flags) qs)

-- accepted: these particles, and the rest as it was
reads : RecordsInput → List Particle → Bool
reads l ps = is_refusal 0 0 (read_answer l) && same_particles (particles_after_read l) (ps ++ replicate (length l.particles - length ps) other)

refuses_read : RecordsInput → ℕ → ℕ → Bool
refuses_read l number place = is_refusal number place (read_answer l) && same_particles (particles_after_read l) l.particles

pub sheets : List Bool
sheets =
    -- none, one, and two in index order; a longer output keeps its rest
    writes (writing [] 0) []
    ∷ writes (writing [] 3) []
    ∷ writes (writing (label ∷ []) 40) label_bytes
    ∷ writes (writing (label ∷ []) 43) label_bytes
    ∷ writes (writing (label ∷ []) 81) label_bytes
    ∷ writes (writing (origin· ∷ label ∷ []) 80) (replicate 40 0 ++ label_bytes)
    ∷ writes (writing (label ∷ origin· ∷ []) 85) (label_bytes ++ replicate 40 0)
    -- 2 for less than 40 bytes a particle
    ∷ refuses_write (writing (label ∷ []) 0) 2 0
    ∷ refuses_write (writing (label ∷ []) 39) 2 0
    ∷ refuses_write (writing (label ∷ origin· ∷ []) 79) 2 0
    -- before a bad particle
    ∷ refuses_write (writing (bad_flag label ∷ []) 39) 2 0
    -- a bad particle isn't written, nor is any other: by its index, the lowest first, whatever the trouble
    ∷ refuses_write (writing (bad_flag label ∷ []) 40) 10 0
    ∷ refuses_write (writing (label ∷ bad_place label ∷ []) 80) 4 1
    ∷ refuses_write (writing (label ∷ label ∷ bad_speed label ∷ []) 120) 5 2
    ∷ refuses_write (writing (label ∷ bad_speed label ∷ bad_flag label ∷ []) 130) 5 1
    ∷ refuses_write (writing (particle (limit ⊖ minus 1) 0· 0· 0· 0 ∷ bad_flag label ∷ []) 80) 4 0
    -- of one particle flags before coordinates before velocities
    ∷ refuses_write (writing (bad_flag (bad_place (bad_speed label)) ∷ []) 40) 10 0
    ∷ refuses_write (writing (bad_place (bad_speed label) ∷ []) 40) 4 0
    -- the same of records that are read
    ∷ reads (reading [] 0) []
    ∷ reads (reading [] 2) []
    ∷ reads (reading label_bytes 1) (label ∷ [])
    ∷ reads (reading label_bytes 3) (label ∷ [])
    ∷ reads (reading (replicate 40 0 ++ label_bytes) 2) (origin· ∷ label ∷ [])
    -- 10 for the length, before 2 for a list shorter than the count
    ∷ refuses_read (reading (replicate 39 0) 0) 10 0
    ∷ refuses_read (reading (label_bytes ++ (0 ∷ [])) 1) 10 0
    ∷ refuses_read (reading label_bytes 0) 2 0
    ∷ refuses_read (reading (label_bytes ++ label_bytes) 1) 2 0
    -- these before a bad record, and the lowest of these first
    ∷ refuses_read (reading (sheet_of (bad_flag label ∷ [])) 0) 2 0
    ∷ refuses_read (reading (sheet_of (bad_flag label ∷ []) ++ (0 ∷ [])) 0) 10 0
    ∷ refuses_read (reading (sheet_of (label ∷ bad_flag label ∷ [])) 2) 10 1
    ∷ refuses_read (reading (sheet_of (bad_place label ∷ bad_flag label ∷ [])) 3) 4 0
    ∷ refuses_read (reading (sheet_of (label ∷ label ∷ bad_speed label ∷ [])) 3) 5 2
    ∷ refuses_read (reading (sheet_of (bad_flag (bad_place label) ∷ [])) 1) 10 0
    -- both ways round: the farthest place, the greatest velocity, the least number, the sign of a zero
    ∷ reads (reading (sheet_after_write (writing (edge ∷ label ∷ []) 80)) 2) (edge ∷ label ∷ [])
    ∷ writes (writing (particles_after_read (reading (sheet_of (label ∷ edge ∷ [])) 2)) 83) (sheet_of (label ∷ edge ∷ []))
    -- 1 for over 4,096: before 2 and before a bad particle, of a sheet after 10
    ∷ refuses_write (writing (replicate 4096 origin·) 5) 2 0
    ∷ refuses_write (writing (replicate 4097 origin·) 0) 1 0
    ∷ refuses_write (writing (bad_flag label ∷ replicate 4096 origin·) 9) 1 0
    ∷ refuses_read (reading (replicate (4096 * record_size) 0) 1) 2 0
    ∷ refuses_read (reading (replicate (4097 * record_size) 0) 0) 1 0
    ∷ refuses_read (reading (replicate (4097 * record_size + 1) 0) 0) 10 0
    ∷ []

pub every_sheet_holds : all (λ b. b) sheets ≡ true
unfolding opened sheets origin· other label label_bytes edge infinite· nan· bad_flag bad_place bad_speed writing reading writes refuses_write same_particles reads refuses_read plus minus half −0· equals same_bits is_refusal
every_sheet_holds = refl

-- ---- recentering, of document 02, R-1

-- accepted, with these bytes
recenters_to : List ℕ → ℕ → List ℕ → Bool
recenters_to bytes ticks to =
    let o = recentered bytes ticks in
    is_refusal 0 0 (refusal_of o) && equals (if_done o (λ out. out) (9 ∷ [])) to

recenters : List Particle → ℕ → List Particle → Bool
recenters ps ticks qs = recenters_to (sheet_of ps) ticks (sheet_of qs)

refuses_recentering : List ℕ → ℕ → ℕ → ℕ → Bool
refuses_recentering bytes ticks number place = is_refusal number place (refusal_of (recentered bytes ticks))

over : ℕ → ℕ → Float
over n m = plus n ⊘ plus m

-- one that moves, one whose x is held, one that moves the other way; their mean is (3,1)
labels : List Particle
labels = particle 0· 0· 1· 0· 0 ∷ particle (plus 3) (plus 3) (plus 5) 1· 1 ∷ particle (plus 6) 0· (minus 1) 2· 0 ∷ []

-- less the mean: (-3,-1), (0,2), (3,-1); then each moves, and the held x returns to 3; their mean is (1,1)
labels_once : List Particle
labels_once =
    particle (minus 2) (minus 1) (over 3 5) 0· 0
    ∷ particle (plus 3) (plus 3) 0· (over 3 5) 1
    ∷ particle 2· 1· (neg (over 3 5)) (over 6 5) 0
    ∷ []

-- less the mean: (-3,-2), (2,2), (1,0); then each moves, and the held x returns to 3
labels_twice : List Particle
labels_twice =
    particle (neg (over 12 5)) (minus 2) (over 9 25) 0· 0
    ∷ particle (plus 3) (over 13 5) 0· (over 9 25) 1
    ∷ particle (over 2 5) (over 6 5) (neg (over 9 25)) (over 18 25) 0
    ∷ []

-- on both sides of 0, going outward; their mean stays 0
apart : Float → Float → List Particle
apart x v = particle x 0· v 0· 0 ∷ particle (neg x) 0· (neg v) 0· 0 ∷ []

-- two at rest, and one like this behind them
third : Particle → List ℕ
third p = sheet_of (resting two ++ (p ∷ []))

pub recenterings : List Bool
recenterings =
    recenters labels 1 labels_once
    ∷ recenters labels 2 labels_twice
    -- no tick: the same bytes, -0.0 too
    ∷ recenters labels 0 labels
    ∷ recenters (particle −0· −0· −0· −0· 3 ∷ []) 0 (particle −0· −0· −0· −0· 3 ∷ [])
    -- no records
    ∷ recenters [] 1 []
    ∷ recenters [] 9 []
    -- one tick too many; as many as may be, where a bad record shows
    ∷ refuses_recentering [] 4097 1 0
    ∷ refuses_recentering (records 1) 4097 1 0
    ∷ refuses_recentering (records 1) 4096 10 0
    -- a bad length, before too many records and too many ticks
    ∷ refuses_recentering (1 ∷ []) 1 10 0
    ∷ refuses_recentering (replicate 20521 9) 1 10 0
    ∷ refuses_recentering (1 ∷ []) 4097 10 0
    -- 513 records; 512, where a bad record shows (so many that are all looked at are too many to compute here); 20, of which the last is bad, and then none is
    ∷ refuses_recentering (records 513) 1 1 0
    ∷ refuses_recentering (records 512) 1 10 0
    ∷ refuses_recentering (replicate 760 0 ++ sheet_of (one nan· 0)) 1 4 19
    ∷ recenters_to (replicate 800 0) 0 (replicate 800 0)
    -- the first bad record: its flags before its place before its velocity
    ∷ refuses_recentering (third (particle nan· 0· nan· 0· 4)) 1 10 2
    ∷ refuses_recentering (third (particle 0· nan· nan· 0· 3)) 1 4 2
    ∷ refuses_recentering (third (particle 0· 0· 0· nan· 3)) 1 5 2
    ∷ refuses_recentering (third (particle 0· 0· 0· nan· 3) ++ sheet_of (one nan· 4)) 1 5 2
    -- also where no tick runs
    ∷ refuses_recentering (third (particle 0· 0· 0· nan· 3)) 0 5 2
    -- 9: the first tick goes beyond 2^40; the second does, after one that just doesn't; Center alone does
    ∷ refuses_recentering (sheet_of (apart limit 1·)) 1 9 0
    ∷ refuses_recentering (sheet_of (apart limit 1·)) 2 9 0
    ∷ recenters (apart (limit ⊖ 2·) 2·) 1 (apart limit (over 6 5))
    ∷ refuses_recentering (sheet_of (apart (limit ⊖ 2·) 2·)) 2 9 0
    ∷ refuses_recentering (sheet_of (resting (limit ∷ 0· ∷ limit ∷ 0· ∷ neg limit ∷ 0· ∷ []))) 1 9 0
    ∷ []

pub every_recentering_holds : all (λ b. b) recenterings ≡ true
unfolding opened recenterings recenters_to recenters refuses_recentering over labels labels_once labels_twice apart third records one two nan· plus minus −0· equals is_refusal
every_recentering_holds = refl
