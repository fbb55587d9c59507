mod DueLists
mod DueHistories
mod QuietCalls
mod Leading
mod ServerLemmas
