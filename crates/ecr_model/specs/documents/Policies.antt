-- The reading of a lifecycle policy's text (Amazon ECR User Guide, lifecycle policies). Rules count from 1 in the
-- order of their list, and rule 0 stands for the text. A member that is null is there.
use Rattle.std.specs.Prelude.{ℕ, suc, Bool, true, false, not, ◌&&◌, ◌||◌, ◌==◌, ◌++◌, List, [], ◌∷◌, length, Option, Some, None, Result, Ok, Err, is_some, codes, nat_le, nat_lt, if◌then◌else◌, bytes_eq, option_and_then, unwrap_or}
use Rattle.std.specs.Option.{option_map_or}
use Rattle.std.specs.List.{list_all, list_any, filter, cons_option}
use Rattle.serde_json.specs.Data.{Data, null, Items, no_items, item, Members, no_members, member}
use Rattle.serde_json.specs.Find.{get, as_str, as_array, as_object, as_number, as_u64}
use Rattle.ecr_model.specs.documents.Conditions.{first_of}
use Rattle.ecr_model.specs.documents.Documents.{document}
use Rattle.ecr_model.specs.declared.registry.lifecycle.Policy.{Policy}
use Rattle.ecr_model.specs.declared.registry.lifecycle.PolicyFault.{PolicyFault}
use Rattle.ecr_model.specs.declared.registry.lifecycle.Rule.{Rule}
use Rattle.ecr_model.specs.declared.registry.lifecycle.Choose.{Choose}
use Rattle.ecr_model.specs.declared.registry.lifecycle.Choose.TheVariants.{Untagged, Any, Prefixes}
use Rattle.ecr_model.specs.declared.registry.lifecycle.Count.{Count}
use Rattle.ecr_model.specs.declared.registry.lifecycle.Count.TheVariants.{MoreThan, OlderDays}

-- ---- texts

-- the byte doesn't continue a character (RFC 3629, section 3)
abbrev pub begins_character : ℕ → Bool
begins_character byte = nat_lt byte 128 || nat_le 192 byte

-- how many characters a text of UTF-8 has
abbrev pub characters : List ℕ → ℕ
characters text = length (filter begins_character text)

-- ---- JSON values

-- each member has one of the names
abbrev pub are_among : List (List ℕ) → Members → Bool
are_among names no_members = true
are_among names (member k d ms) = list_any (λ name. bytes_eq k name) names && are_among names ms

-- an object with no member of another name
abbrev pub has_only : List (List ℕ) → Data → Bool
has_only names d = option_map_or (are_among names) (as_object d) false

-- the member is there
abbrev pub has : List ℕ → Data → Bool
has name d = is_some (get name d)

-- the text of a member, where it is there and has one
abbrev pub text_at : List ℕ → Data → Option (List ℕ)
text_at name d = option_and_then as_str (get name d)

-- the member is there and is this text
abbrev pub is_text_at : List ℕ → List ℕ → Data → Bool
is_text_at name text d = option_map_or (λ t. bytes_eq t text) (text_at name d) false

-- the number, where it is from 1 to 2,147,483,647
abbrev pub in_range : ℕ → Option ℕ
in_range n = if nat_le 1 n && nat_le n 2147483647 then Some n else None

-- the whole number from 1 to 2,147,483,647 that the member is
abbrev pub whole_at : List ℕ → Data → Option ℕ
whole_at name d = option_and_then in_range (option_and_then as_u64 (option_and_then as_number (get name d)))

-- ---- conditions

-- the cause, where it holds
abbrev pub cause_if : ℕ → Bool → Option ℕ
cause_if cause true = Some cause
cause_if cause false = None

-- ---- the selection of a rule

-- a rule's selection; null where there is none
abbrev pub selection_of : Data → Data
selection_of rule = unwrap_or (get (codes "selection") rule) null

-- `tagStatus` is `tagged`
abbrev pub selects_tagged : Data → Bool
selects_tagged selection = is_text_at (codes "tagStatus") (codes "tagged") selection

-- `tagStatus` is `untagged`
abbrev pub selects_untagged : Data → Bool
selects_untagged selection = is_text_at (codes "tagStatus") (codes "untagged") selection

-- `tagStatus` is `any`
abbrev pub selects_any : Data → Bool
selects_any selection = is_text_at (codes "tagStatus") (codes "any") selection

-- a text of 1 to 128 characters
abbrev pub is_prefix : Data → Bool
is_prefix d = option_map_or (λ t. nat_le 1 (characters t) && nat_le (characters t) 128) (as_str d) false

-- each item is one
abbrev pub are_prefixes : Items → Bool
are_prefixes no_items = true
are_prefixes (item d ds) = is_prefix d && are_prefixes ds

-- how many items there are
abbrev pub number_of : Items → ℕ
number_of no_items = 0
number_of (item d ds) = suc (number_of ds)

-- the texts among the items
abbrev pub texts_of : Items → List (List ℕ)
texts_of no_items = []
texts_of (item d ds) = cons_option (as_str d) (texts_of ds)

-- a list of 1 to 100 such texts
abbrev pub is_prefix_list : Items → Bool
is_prefix_list ds = nat_le 1 (number_of ds) && nat_le (number_of ds) 100 && are_prefixes ds

-- the list `tagPrefixList`, where it is there and is one
abbrev pub prefix_list : Data → Option Items
prefix_list selection = option_and_then as_array (get (codes "tagPrefixList") selection)

-- `tagged` has a list of prefixes, and the other statuses have none
abbrev pub has_its_prefixes : Data → Bool
has_its_prefixes selection =
    if selects_tagged selection then option_map_or is_prefix_list (prefix_list selection) false
    else not (has (codes "tagPrefixList") selection)

-- `countType` is `sinceImagePushed`
abbrev pub counts_days : Data → Bool
counts_days selection = is_text_at (codes "countType") (codes "sinceImagePushed") selection

-- `countType` is `imageCountMoreThan`
abbrev pub counts_images : Data → Bool
counts_images selection = is_text_at (codes "countType") (codes "imageCountMoreThan") selection

-- `sinceImagePushed` has the unit `days`, and the other type has none
abbrev pub has_its_unit : Data → Bool
has_its_unit selection = if counts_days selection then is_text_at (codes "countUnit") (codes "days") selection
    else not (has (codes "countUnit") selection)

-- the number that is counted up to
abbrev pub count_number : Data → Option ℕ
count_number selection = whole_at (codes "countNumber") selection

-- the names of a selection's members
abbrev pub selection_members : List (List ℕ)
selection_members =
    codes "tagStatus" ∷ codes "tagPrefixList" ∷ codes "countType" ∷ codes "countUnit" ∷ codes "countNumber" ∷ []

-- the first cause that holds of a selection
unfoldable pub selection_fault : Data → Option ℕ
selection_fault selection = first_of (
    cause_if 7 (not (has_only selection_members selection))
    ∷ cause_if 8 (not (selects_tagged selection) && not (selects_untagged selection) && not (selects_any selection))
    ∷ cause_if 9 (not (has_its_prefixes selection))
    ∷ cause_if 10 (not (counts_days selection) && not (counts_images selection))
    ∷ cause_if 11 (not (has_its_unit selection))
    ∷ cause_if 12 (not (is_some (count_number selection)))
    ∷ [])

-- the images that a selection chooses, where nothing is wrong with it
abbrev pub choose_of : Data → Choose
choose_of selection = if selects_tagged selection then Prefixes (texts_of (unwrap_or (prefix_list selection) no_items))
    else (if selects_untagged selection then Untagged else Any)

-- how it counts them, where nothing is wrong with it
abbrev pub stated_count : Data → Count
stated_count selection = if counts_days selection then OlderDays (unwrap_or (count_number selection) 0)
    else MoreThan (unwrap_or (count_number selection) 0)

-- ---- a rule

-- the names of a rule's members
abbrev pub rule_members : List (List ℕ)
rule_members = codes "rulePriority" ∷ codes "description" ∷ codes "selection" ∷ codes "action" ∷ []

-- the rule's number
abbrev pub priority_of : Data → Option ℕ
priority_of rule = whole_at (codes "rulePriority") rule

-- a description is a text
abbrev pub is_described : Data → Bool
is_described rule = not (has (codes "description") rule) || is_some (text_at (codes "description") rule)

-- an object with the one member `type`, which is `expire`
abbrev pub is_action : Option Data → Bool
is_action None = false
is_action (Some a) = has_only (codes "type" ∷ []) a && is_text_at (codes "type") (codes "expire") a

-- the first cause that holds of a rule by itself
unfoldable pub rule_fault : Data → Option ℕ
rule_fault rule = first_of (
    cause_if 4 (not (has_only rule_members rule))
    ∷ cause_if 5 (not (is_some (priority_of rule)))
    ∷ cause_if 6 (not (is_described rule))
    ∷ selection_fault (selection_of rule)
    ∷ cause_if 13 (not (is_action (get (codes "action") rule)))
    ∷ [])

-- the rule, where nothing is wrong with it
abbrev pub rule_of : Data → Rule
rule_of rule = record {
  priority = unwrap_or (priority_of rule) 0;
  choose = choose_of (selection_of rule);
  count = stated_count (selection_of rule);
}

-- ---- the rules in the order of the list

-- the cause with its rule's number, or else the later fault
abbrev pub or_later : ℕ → Option ℕ → Option PolicyFault → Option PolicyFault
or_later n None later = later
or_later n (Some cause) later = Some (record { rule = n; cause = cause })

-- the fault of the first rule that has one by itself; the first of these rules has that number
abbrev pub rules_fault : ℕ → Items → Option PolicyFault
rules_fault n no_items = None
rules_fault n (item d ds) = or_later n (rule_fault d) (rules_fault (suc n) ds)

-- the rules, where nothing is wrong with one
abbrev pub rules_of : Items → List Rule
rules_of no_items = []
rules_of (item d ds) = rule_of d ∷ rules_of ds

-- ---- the rules together

abbrev pub is_any : Choose → Bool
is_any Untagged = false
is_any Any = true
is_any (Prefixes texts) = false

abbrev pub is_untagged : Choose → Bool
is_untagged Untagged = true
is_untagged Any = false
is_untagged (Prefixes texts) = false

abbrev pub is_subset : List (List ℕ) → List (List ℕ) → Bool
is_subset xs ys = list_all (λ x. list_any (λ y. bytes_eq y x) ys) xs

-- two lists of prefixes with the same set of texts
abbrev pub have_same_texts : Choose → Choose → Bool
have_same_texts Untagged other = false
have_same_texts Any other = false
have_same_texts (Prefixes xs) Untagged = false
have_same_texts (Prefixes xs) Any = false
have_same_texts (Prefixes xs) (Prefixes ys) = is_subset xs ys && is_subset ys xs

-- the first cause that holds of a rule beside the earlier ones and all
unfoldable pub clash : List Rule → List Rule → Rule → Option ℕ
clash all earlier r = first_of (
    cause_if 14 (list_any (λ e. e.priority == r.priority) earlier)
    ∷ cause_if 15 (is_any r.choose && list_any (λ o. nat_lt r.priority o.priority) all)
    ∷ cause_if 16 (is_untagged r.choose && list_any (λ e. is_untagged e.choose) earlier)
    ∷ cause_if 17 (list_any (λ e. have_same_texts r.choose e.choose) earlier)
    ∷ [])

-- the fault of the first rule that doesn't go with the others
abbrev pub clashes_from : ℕ → List Rule → List Rule → List Rule → Option PolicyFault
clashes_from n all earlier [] = None
clashes_from n all earlier (r ∷ rs) =
    or_later n (clash all earlier r) (clashes_from (suc n) all (earlier ++ r ∷ []) rs)

-- ---- the policy

-- the rule in front of the first of a greater or the same number
abbrev pub insert_rule : Rule → List Rule → List Rule
insert_rule rule [] = rule ∷ []
insert_rule rule (r ∷ rs) = if nat_lt r.priority rule.priority then r ∷ insert_rule rule rs else rule ∷ r ∷ rs

-- the rules in order of their numbers
abbrev pub by_number : List Rule → List Rule
by_number [] = []
by_number (r ∷ rs) = insert_rule r (by_number rs)

-- the list of rules of an object with the one member `rules`
abbrev pub rules_in : Option Data → Option Items
rules_in None = None
rules_in (Some d) = if has_only (codes "rules" ∷ []) d then option_and_then as_array (get (codes "rules") d) else None

-- 100 to 30,720 characters
abbrev pub has_length : List ℕ → Bool
has_length text = nat_le 100 (characters text) && nat_le (characters text) 30720

-- 1 to 50 rules
abbrev pub has_number : Items → Bool
has_number ds = nat_le 1 (number_of ds) && nat_le (number_of ds) 50

-- the text's cause, where it holds
abbrev pub text_cause_if : ℕ → Bool → Option PolicyFault
text_cause_if cause holds = or_later 0 (cause_if cause holds) None

-- the first fault of a list of rules
unfoldable pub list_fault : Option Items → Option PolicyFault
list_fault list =
    let ds = unwrap_or list no_items in
    first_of (
    text_cause_if 2 (not (is_some list))
    ∷ text_cause_if 3 (not (has_number ds))
    ∷ rules_fault 1 ds
    ∷ clashes_from 1 (rules_of ds) [] (rules_of ds)
    ∷ [])

-- the first fault of a text
abbrev pub policy_fault : List ℕ → Option PolicyFault
policy_fault text = first_of (
    text_cause_if 1 (not (has_length text))
    ∷ list_fault (rules_in (document text))
    ∷ [])

-- the policy of the list, where nothing is wrong
abbrev pub policy_of : List ℕ → Option Items → Policy
policy_of text list = record { text = text; rules = by_number (rules_of (unwrap_or list no_items)) }

-- the policy, where nothing is wrong
abbrev pub policy_or_fault : Option PolicyFault → Policy → Result Policy PolicyFault
policy_or_fault (Some fault) policy = Err fault
policy_or_fault None policy = Ok policy

-- the policy of a text, or its first fault: a rule's number and the cause
unfoldable pub policy : List ℕ → Result Policy PolicyFault
policy text = policy_or_fault (policy_fault text) (policy_of text (rules_in (document text)))
