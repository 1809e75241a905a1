mod FirstCalls
