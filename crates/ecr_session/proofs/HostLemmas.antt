-- How a host is compared piece by piece, and cut at its last `:`.
use Rattle.std.proofs.Common.{◌≡◌, ◌≢◌, ◌∙◌, ◌+◌, ◌-◌, ◌<◌, ◌≤◌, ℕ, true, false, not, cond, ◌&&◌, List, ◌++◌, length, take, drop, get_or, map, refl, sym, ap, arith, take-append-drop}
use Rattle.std.specs.Char.{to_ascii_lowercase}
use Rattle.std.specs.List.{suffix_len, before_last, after_last}
use Rattle.std.specs.Str.{bytes_eq, str_eq_ignore_ascii_case}
use Rattle.std.proofs.lemmas.Bool.{and_left, both_ways, cond-false, eq-eqb, false_from_ne_true, ne_eqb, not_from_false, not_from_true}
use Rattle.std.proofs.lemmas.Bool.Decides.{Decides-like, same_from_decides}
use Rattle.std.proofs.lemmas.List.{append_cancel_left, map-append, take-map, take_at}
use Rattle.std.proofs.lemmas.List.Elements.{All-from_get_or}
use Rattle.std.proofs.lemmas.List.Folds.{list_any_at, list_any_none}
use Rattle.std.proofs.lemmas.List.Sums.{suffix_len_is}
use Rattle.std.proofs.lemmas.Slice.Eq.{bytes_eq-Decides}
use Rattle.ecr_model.specs.http.Hosts.{is_colon, is_port, without_port}

-- ---- a front

abbrev lower : List ℕ → List ℕ
lower text = map to_ascii_lowercase text

-- a text that doesn't begin with the front isn't the front and an end
pub no_front : (text front end : List ℕ) → str_eq_ignore_ascii_case (take (length front) text) front ≡ false
    → str_eq_ignore_ascii_case text (front ++ end) ≡ false
no_front text front end other = false_from_ne_true _ (λ e.
    let same = (bytes_eq-Decides (lower text) (lower (front ++ end))).0 e in
    let begins = sym (take-map to_ascii_lowercase (length front) text) ∙ ap (take (length front)) same
    ∙ take-map to_ascii_lowercase (length front) (front ++ end) ∙ ap lower (take_at front end (length front) refl) in
    both_ways _ other ((bytes_eq-Decides (lower (take (length front) text)) (lower front)).1 begins))

-- of one that begins with the front the rest decides
pub at_front : (text front end : List ℕ) → str_eq_ignore_ascii_case (take (length front) text) front ≡ true
    → str_eq_ignore_ascii_case text (front ++ end) ≡ str_eq_ignore_ascii_case (drop (length front) text) end
at_front text front end same =
    let rest = drop (length front) text in
    let split : lower text ≡ lower front ++ lower rest =
    ap lower (sym (take-append-drop (length front) text))
    ∙ map-append to_ascii_lowercase (take (length front) text) rest
    ∙ ap (λ l. l ++ lower rest) ((bytes_eq-Decides (lower (take (length front) text)) (lower front)).0 same) in
    let whole : lower (front ++ end) ≡ lower front ++ lower end = map-append to_ascii_lowercase front end in
    same_from_decides _ _
    (Decides-like (bytes_eq (lower text) (lower (front ++ end)))
    (λ e. append_cancel_left (lower front) (lower rest) (lower end) (sym split ∙ e ∙ whole))
    (λ e. split ∙ ap (λ l. lower front ++ l) e ∙ sym whole)
    (bytes_eq-Decides (lower text) (lower (front ++ end))))
    (bytes_eq-Decides (lower rest) (lower end))

-- ---- the last `:`

-- a host without a colon has no port
pub without_port-none : (host : List ℕ) → ((k : ℕ) → k < length host → get_or host k 0 ≢ 58) → without_port host ≡ host
unfolding without_port
without_port-none host none =
    let any = list_any_none is_colon host
    (All-from_get_or (λ c. is_colon c ≡ false) host 0 (λ k inside. ne_eqb (get_or host k 0) 58 (none k inside))) in
    cond-false _ _ _ (and_left _ _ any)

-- a host's port stands behind its last colon, where it is one
pub without_port-last : (host : List ℕ) (i : ℕ) → i < length host → get_or host i 0 ≡ 58
    → ((k : ℕ) → i + 1 ≤ k → k < length host → get_or host k 0 ≢ 58)
    → without_port host ≡ cond (is_port (drop (i + 1) host)) (take i host) host
unfolding without_port
without_port-last host i inside here behind =
    let is_other = λ (c : ℕ). not (is_colon c) in
    let any = list_any_at is_colon host i 0 inside (eq-eqb (get_or host i 0) 58 here) in
    let back : i + 1 - 1 ≡ i = omega arith in
    let size : suffix_len is_other host ≡ length host - (i + 1) =
    suffix_len_is is_other host (i + 1) 0 (omega arith)
    (λ k from inside. not_from_false _ (ne_eqb (get_or host k 0) 58 (behind k from inside)))
    (λ _. not_from_true _ (ap (λ k. is_colon (get_or host k 0)) back ∙ eq-eqb (get_or host i 0) 58 here)) in
    let from : length host - suffix_len is_other host ≡ i + 1 = omega arith in
    let to : length host - suffix_len is_other host - 1 ≡ i = omega arith in
    ap (λ b. cond (b && is_port (after_last is_colon host)) (before_last is_colon host) host) any
    ∙ ap (λ n. cond (is_port (drop n host)) (before_last is_colon host) host) from
    ∙ ap (λ n. cond (is_port (drop (i + 1) host)) (take n host) host) to
